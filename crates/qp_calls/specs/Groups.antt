-- What groups of calls do.
use Rattle.std.specs.Prelude.{◌≡◌, ℕ, List, IsTrue, Ok, Err}
use Rattle.std.specs.declared.option.Option.{Option}
use Rattle.std.specs.declared.result.Result.{Result}
use Rattle.qp_model.specs.declared.systems.System.{System}
use Rattle.qp_model.specs.declared.bodies.Entry as model
use Rattle.qp_model.specs.Told.{Told}
use Rattle.qp_model.specs.Calls.{Call, Answer}
use Rattle.qp_model.specs.Shapes.{Fits}
use Rattle.qp_calls.specs.declared.answers.RoomFault.{RoomFault}
use Rattle.qp_calls.specs.declared.did.Did.{Did}
use Rattle.qp_calls.specs.declared.did.Did.TheVariants as did
use Rattle.qp_calls.specs.LaneView.{LaneView, Grows}
use Rattle.qp_calls.specs.Clauses.{IsFault}
use Rattle.qp_calls.specs.Entries.{Released, did_of, is_value}

-- `room` refused at once, and nothing was added
abbrev pub Refused : RoomFault → LaneView → LaneView → Type 0
Refused fault old new = (new ≡ old) × IsFault old fault

-- The records that a call of object o added to its lane fit the answer; a step works on the entry `now`. A value leaves
-- the hands as they were.
pub record CallAnswers (sys : System) (o : ℕ) (now : Option model.Entry) (c : Call) (d : Did) (old new : LaneView) : Type 0 where
  pub answer : Answer
  pub g : List Told
  pub said : d ≡ did_of answer
  pub grows : Grows g old new
  pub fits : Fits sys o now c answer g
  pub hands : IsTrue (is_value d) → new.hands ≡ old.hands

-- the call answers, or `room` refused
abbrev pub CallReturns : Option model.Entry → Call → LaneView → LaneView → Result Did RoomFault → Type 0
CallReturns now c old new (Ok d) = CallAnswers old.sys old.by now c d old new
CallReturns now c old new (Err fault) = Refused fault old new

-- a step has ended: the reference of its entry was dropped
pub record EndsStep (e : model.Entry) (d : Did) (old new : LaneView) : Type 0 where
  pub said : d ≡ did.Value 1
  pub released : Released e old new
