-- What contracts see of a lane of the waiting port.
use Rattle.std.specs.Prelude.{◌≡◌, ℕ, ◌+◌, ◌≤◌, ◌%◌, ◌^◌, ◌==◌, Bool, List, [], ◌∷◌, if◌then◌else◌}
use Rattle.crossbeam_utils.specs.Token.{parker_view}
use Rattle.qp_calls.specs.LaneView.{LaneView}
use Rattle.qp_wait_bells.specs.Tallies.{one_where, with_added}
use Rattle.qp_wait_rings.specs.declared.cord.Cord.{Cord}
use Rattle.qp_wait_rings.specs.Lane.{Forgets, ringing_view}
use Rattle.qp_wait.specs.declared.lane.BellLane.{BellLane}
use Rattle.qp_wait.specs.Parked.{parked_object, parks_of}

abbrev pub bell_view : BellLane → LaneView
bell_view l = ringing_view l.ringing

-- a lane whose posts ring from its first record on; it has said no farewell, closed nothing, and not parked
pub record IsNewBellLane (v : LaneView) (l : BellLane) : Type 0 where
  pub lane : bell_view l ≡ v
  pub opened : l.ringing.opened ≡ 0
  pub refused : l.ringing.refused ≡ 0
  pub ended : l.closings.ended ≡ 0
  pub said : l.farewells.said ≡ 0
  pub parks : parks_of l.perch ≡ []

-- the notes to an object that the pass of its cord shows
abbrev pub given_in : ℕ → List Cord → ℕ
given_in a [] = 0
given_in a (c ∷ cs) = if c.object == a then (parker_view c.pass).given else given_in a cs

-- all notes that the lane gave to an object, by its posts and by its farewells
abbrev pub notes_to : ℕ → BellLane → ℕ
notes_to a l = given_in a l.ringing.cords.items + given_in a l.farewells.cords.items

-- all that it added to the count beside its claims
abbrev pub openings : BellLane → ℕ
openings l = l.closings.seat.me.0.added

-- how many of its looks at the count found nothing there
abbrev pub empty_looks : BellLane → ℕ
empty_looks l = l.closings.seat.me.0.empty_looks

-- how often it took the last one off the count, but for claims that were refused
abbrev pub last_takes : BellLane → ℕ
last_takes l = l.closings.seat.me.0.last_takes

-- so many were added to the count
pub record OpensFor (n : ℕ) (old new : BellLane) : Type 0 where
  pub ringing : new.ringing ≡ old.ringing
  pub farewells : new.farewells ≡ old.farewells
  pub perch : new.perch ≡ old.perch
  pub ended : new.closings.ended ≡ old.closings.ended
  pub added : new.closings.seat.me.0 ≡ with_added n old.closings.seat.me.0

-- one was taken off, and a farewell was said exactly where it was the last
pub record IsAway (old new : BellLane) : Type 0 where
  pub ringing : new.ringing ≡ old.ringing
  pub perch : new.perch ≡ old.perch
  pub ended : new.closings.ended ≡ (old.closings.ended + 1) % 2 ^ 64
  pub added : openings new ≡ openings old
  pub looks : empty_looks new ≡ empty_looks old
  pub last : last_takes new ≤ last_takes old + 1
  pub said : (new.farewells.said + last_takes old) % 2 ^ 64 ≡ (old.farewells.said + last_takes new) % 2 ^ 64

-- every parker was noted once
pub record SaysOne (old new : BellLane) : Type 0 where
  pub ringing : new.ringing ≡ old.ringing
  pub closings : new.closings ≡ old.closings
  pub perch : new.perch ≡ old.perch
  pub said : new.farewells.said ≡ (old.farewells.said + 1) % 2 ^ 64

-- one was taken off; `last` tells whether it was the last
pub record ClosesOne (last : Bool) (old new : BellLane) : Type 0 where
  pub ringing : new.ringing ≡ old.ringing
  pub farewells : new.farewells ≡ old.farewells
  pub perch : new.perch ≡ old.perch
  pub ended : new.closings.ended ≡ (old.closings.ended + 1) % 2 ^ 64
  pub added : openings new ≡ openings old
  pub looks : empty_looks new ≡ empty_looks old
  pub lasts : last_takes new ≡ last_takes old + one_where last

-- the count was looked at; `empty` tells whether nothing was there
pub record LooksAtCount (empty : Bool) (old new : BellLane) : Type 0 where
  pub ringing : new.ringing ≡ old.ringing
  pub farewells : new.farewells ≡ old.farewells
  pub perch : new.perch ≡ old.perch
  pub ended : new.closings.ended ≡ old.closings.ended
  pub added : openings new ≡ openings old
  pub looks : empty_looks new ≡ empty_looks old + one_where empty
  pub lasts : last_takes new ≡ last_takes old

-- all but its list of parks, and what it found, is as it was; that is used up
pub record KeepsPerch (old new : BellLane) : Type 0 where
  pub ringing : Forgets old.ringing new.ringing
  pub farewells : new.farewells ≡ old.farewells
  pub closings : new.closings ≡ old.closings
  pub object : parked_object new.perch ≡ parked_object old.perch
