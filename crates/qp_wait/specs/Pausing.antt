-- What comes where a queue was found empty.
use Rattle.std.specs.Prelude.{◌≡◌, ℕ, ◌+◌, ◌<◌, true, false, Bool, List, [], ◌∷◌, ◌++◌, Some, None, Ok, Err}
use Rattle.std.specs.declared.result.Result.{Result}
use Rattle.qp_base.specs.declared.faults.Memory.{Memory}
use Rattle.qp_model.specs.Told.{ToldItem}
use Rattle.qp_model.specs.Stops as stop
use Rattle.qp_calls.specs.Clauses.{Stopped, Stops}
use Rattle.qp_calls.specs.LaneView.{LaneView}
use Rattle.qp_kernel.specs.Interrupting.{is_unset}
use Rattle.qp_kernel_turns.specs.Halting.{asked_once}
use Rattle.qp_kernel_turns.specs.declared.halting.Halt.{Halt}
use Rattle.qp_kernel_turns.specs.declared.halting.Halt.TheVariants as halt
use Rattle.qp_wait_bells.specs.Tallies.{one_where}
use Rattle.qp_wait.specs.declared.lane.BellLane.{BellLane}
use Rattle.qp_wait.specs.Lane.{bell_view, empty_looks, last_takes, openings}
use Rattle.qp_wait.specs.Parked.{is_park_place, parks_of}

-- a look that found the queue of object `me` empty stands among the records
abbrev pub HasLook : ℕ → List ToldItem → Type 0
HasLook me told = (n : ℕ) × (is_park_place me told n ≡ true)

-- nothing was taken off the count, and no farewell was said; `over` tells whether a look found nothing on it
pub record LaneRests (over : Bool) (old new : BellLane) : Type 0 where
  pub ended : new.closings.ended ≡ old.closings.ended
  pub added : openings new ≡ openings old
  pub looks : empty_looks new ≡ empty_looks old + one_where over
  pub lasts : last_takes new ≡ last_takes old
  pub said : new.farewells.said ≡ old.farewells.said

-- it parked behind the last look that found the queue of object `me` empty
pub record HasParkedAt (me : ℕ) (old new : BellLane) : Type 0 where
  pub rests : LaneRests false old new
  pub told : (bell_view new).told ≡ (bell_view old).told
  pub place : ℕ
  pub look : is_park_place me (bell_view old).told place ≡ true
  pub last : (k : ℕ) → place < k → is_park_place me (bell_view old).told k ≡ false
  pub parks : parks_of new.perch ≡ parks_of old.perch ++ place ∷ []
  pub spent : new.ringing.found ≡ None

-- it didn't
pub record HasNotParked (over : Bool) (old new : BellLane) : Type 0 where
  pub rests : LaneRests over old new
  pub lane : bell_view new ≡ bell_view old
  pub parks : parks_of new.perch ≡ parks_of old.perch

abbrev pub Parks : ℕ → BellLane → BellLane → Result (Unit {0}) Memory → Type 0
Parks me old new (Ok u) = HasParkedAt me old new × (bell_view new ≡ bell_view old)
Parks me old new (Err e) = HasNotParked false old new

-- the stop word was found set
pub record IsStopFound (old new : BellLane) : Type 0 where
  pub rests : LaneRests false old new
  pub code : ℕ
  pub found : Stopped (bell_view old) (bell_view new) (Some code)
  pub parks : parks_of new.perch ≡ parks_of old.perch

-- it couldn't park, and handed in 7 from there on
pub record FailsToPark (from : LaneView) (old new : BellLane) : Type 0 where
  pub rests : LaneRests false old new
  pub stops : Stops stop.memory from (bell_view new)
  pub parks : parks_of new.perch ≡ parks_of old.perch

-- The turn is over exactly where nothing was found on the count. Else the stop word was looked at, once.
abbrev pub Pauses : ℕ → BellLane → BellLane → Result Bool Halt → Type 0
Pauses me old new (Ok true) = HasParkedAt me old new × (bell_view new ≡ asked_once (bell_view old))
Pauses me old new (Ok false) = HasNotParked true old new
Pauses me old new (Err halt.Stopped) = IsStopFound old new
Pauses me old new (Err halt.Memory) = FailsToPark (asked_once (bell_view old)) old new

-- It parks only where the stop word was found unset first.
abbrev pub ParksUnset : LaneView → Result Bool Halt → Type 0
ParksUnset v (Ok true) = is_unset v ≡ true
ParksUnset v (Ok false) = Unit {0}
ParksUnset v (Err h) = Unit {0}
