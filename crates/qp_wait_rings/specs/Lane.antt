-- What contracts see of a ringing lane.
use Rattle.std.specs.Prelude.{◌≡◌, ℕ, ◌+◌, nat_le, if◌then◌else◌, Some, None}
use Rattle.std.specs.declared.option.Option.{Option}
use Rattle.qp_calls.specs.declared.answers.Counts as counts
use Rattle.qp_calls.specs.declared.answers.Take.{Take}
use Rattle.qp_calls.specs.declared.answers.Take.TheVariants as take
use Rattle.qp_calls.specs.LaneView.{LaneView}
use Rattle.qp_shared.specs.Lane.{lane_view}
use Rattle.qp_wait_rings.specs.declared.ringing.RingingLane.{RingingLane}

abbrev pub ringing_view : RingingLane → LaneView
ringing_view l = lane_view l.lane

-- a lane whose posts ring from its first record on
pub record BeginsToRing (v : LaneView) (l : RingingLane) : Type 0 where
  pub lane : ringing_view l ≡ v
  pub opened : l.opened ≡ 0
  pub refused : l.refused ≡ 0
  pub found : l.found ≡ None

-- what a take found empty
abbrev pub found_by : ℕ → Take → Option ℕ
found_by me (take.Taken e) = None
found_by me (take.Empty f l m) = Some me

-- what a look found empty
abbrev pub found_at : ℕ → counts.Counts → Option ℕ
found_at p c = if nat_le (c.f + c.l) c.m then Some p else None

-- what it found is used up, and all else is as it was
pub record Forgets (old new : RingingLane) : Type 0 where
  pub lane : new.lane ≡ old.lane
  pub seat : new.seat ≡ old.seat
  pub cords : new.cords ≡ old.cords
  pub opened : new.opened ≡ old.opened
  pub refused : new.refused ≡ old.refused
  pub found : new.found ≡ None
