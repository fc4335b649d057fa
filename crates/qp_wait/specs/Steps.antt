-- What the parts of a step leave of a lane's counts.
use Rattle.std.specs.Prelude.{◌≡◌, ℕ, ◌+◌, ◌%◌, ◌^◌, Bool, ◌||◌, Ok, Err}
use Rattle.std.specs.declared.result.Result.{Result}
use Rattle.qp_kernel_turns.specs.declared.halting.Halt.{Halt}
use Rattle.qp_wait_bells.specs.Tallies.{one_where}
use Rattle.qp_wait.specs.declared.lane.BellLane.{BellLane}
use Rattle.qp_wait.specs.Lane.{empty_looks, last_takes, openings}

-- it took nothing off beside refused claims, didn't look at the count, said no farewell, and didn't park
pub record KeepsCounts (old new : BellLane) : Type 0 where
  pub ended : new.closings.ended ≡ old.closings.ended
  pub added : openings new ≡ openings old
  pub looks : empty_looks new ≡ empty_looks old
  pub lasts : last_takes new ≡ last_takes old
  pub said : new.farewells.said ≡ old.farewells.said
  pub perch : new.perch ≡ old.perch

-- Behind a step one was taken off; `last` tells whether it was the last. `was` and `is` tell whether the turn has taken the last one off so far. Where
-- it does so for the first time a farewell was said, and else none.
pub record FinishesOne (was is : Bool) (old new : BellLane) : Type 0 where
  pub perch : new.perch ≡ old.perch
  pub ended : new.closings.ended ≡ (old.closings.ended + 1) % 2 ^ 64
  pub added : openings new ≡ openings old
  pub looks : empty_looks new ≡ empty_looks old
  pub last : Bool
  pub lasts : last_takes new ≡ last_takes old + one_where last
  pub so_far : is ≡ (was || last)
  pub n : ℕ
  pub first : one_where was + n ≡ one_where is
  pub said : new.farewells.said % 2 ^ 64 ≡ (old.farewells.said + n) % 2 ^ 64

-- and no record came
pub record ClosesStep (was is : Bool) (old new : BellLane) : Type 0 where
  pub ringing : new.ringing ≡ old.ringing
  pub counts : FinishesOne was is old new

-- a step that didn't come to its end isn't closed
pub record FinishesNone (was is : Bool) (old new : BellLane) : Type 0 where
  pub keeps : KeepsCounts old new
  pub same : is ≡ was

abbrev pub FinishesStep : Bool → Bool → BellLane → BellLane → Result (Unit {0}) Halt → Type 0
FinishesStep was is old new (Ok u) = FinishesOne was is old new
FinishesStep was is old new (Err h) = FinishesNone was is old new
