-- What the calls of a stimulus come to.
use Rattle.std.specs.Prelude.{◌≡◌, ◌≢◌, ℕ, ◌≤◌, Bool, true, false, List, [], ◌++◌, Ok, Err}
use Rattle.std.specs.declared.result.Result.{Result}
use Rattle.qp_model.specs.declared.stimulus.Stim.{Stim}
use Rattle.qp_model.specs.declared.stimulus.Stim.TheVariants as stim
use Rattle.qp_model.specs.declared.systems.System.{System}
use Rattle.qp_model.specs.Told.{Told}
use Rattle.qp_model.specs.Sources.{StimFits}
use Rattle.qp_calls.specs.declared.answers.RoomFault.{RoomFault}
use Rattle.qp_calls.specs.declared.did.Did.{Did}
use Rattle.qp_calls.specs.declared.did.Did.TheVariants as did
use Rattle.qp_calls.specs.LaneView.{LaneView, Grows}
use Rattle.qp_calls.specs.Notes.{last_code}
use Rattle.qp_calls.specs.Clauses.{IsFault}
use Rattle.qp_calls_stimulus.specs.declared.calling.Called.{Called}
use Rattle.qp_calls_stimulus.specs.declared.calling.Called.TheVariants as called
use Rattle.qp_calls_stimulus.specs.Settling.{SeesSome}

-- a call that is refused is made all the same
abbrev pub called_of : Did → Called
called_of (did.Value n) = called.Whole
called_of (did.Assert code) = called.Asserted code

-- all were made
pub record CallsAll (sys : System) (s : Stim) (v w : LaneView) : Type 0 where
  pub one : List Told
  pub grows : Grows one v w
  pub fits : (kernel : ℕ) → StimFits sys kernel s false one
  pub hands : w.hands ≡ v.hands

-- up to an assertion, which is the lane's last record
pub record CallsFail (sys : System) (s : Stim) (code : ℕ) (v w : LaneView) : Type 0 where
  pub one : List Told
  pub grows : Grows one v w
  pub fits : (kernel : ℕ) → StimFits sys kernel s true one
  pub some : 1 ≤ code
  pub few : code ≤ 5
  pub last : last_code w.told ≡ code

-- up to where `room` refused, and something is missing
pub record CallsCut (sys : System) (s : Stim) (v w : LaneView) : Type 0 where
  pub one : List Told
  pub back : List Told
  pub asserted : Bool
  pub grows : Grows one v w
  pub fits : (kernel : ℕ) → StimFits sys kernel s asserted (one ++ back)
  pub some : back ≢ []

abbrev pub Calls : System → Stim → LaneView → LaneView → Result Called RoomFault → Type 0
Calls sys s v w (Ok called.Whole) = CallsAll sys s v w
Calls sys s v w (Ok called.Tried) = (s ≡ stim.Settle) × SeesSome sys v w
Calls sys s v w (Ok (called.Asserted code)) = CallsFail sys s code v w
Calls sys s v w (Err fault) = CallsCut sys s v w × IsFault w fault
