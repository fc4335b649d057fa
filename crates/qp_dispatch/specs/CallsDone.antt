-- What a call of an action does to the lane and to the deferred list.
use Rattle.std.specs.Prelude.{◌≡◌, Bool, true, false, Ok, Err, Some, None, ⊤}
use Rattle.std.specs.declared.option.Option.{Option}
use Rattle.std.specs.declared.result.Result.{Result}
use Rattle.qp_model.specs.declared.bodies.Entry as model
use Rattle.qp_model.specs.Calls as call
use Rattle.qp_model.specs.Calls.{Call}
use Rattle.qp_calls.specs.declared.answers.RoomFault.{RoomFault}
use Rattle.qp_calls.specs.declared.deferred.Deferred.{Deferred}
use Rattle.qp_calls.specs.declared.did.Did.{Did}
use Rattle.qp_calls.specs.LaneView.{LaneView}
use Rattle.qp_calls.specs.declared.tokens.HeldEntry.{HeldEntry}
use Rattle.qp_calls.specs.Clauses.{IsFault, EntryStands}
use Rattle.qp_calls.specs.Deferring.{AnswersKept, FlushCut}

-- `room` refused: a flush may have dropped some entries, the other calls have done nothing
abbrev pub CallCut : Call → Deferred → Deferred → LaneView → LaneView → Type 0
CallCut call.Flush kept more old new = FlushCut kept more old new
CallCut x kept more old new = (more ≡ kept) × (new ≡ old)

-- the call answers, or `room` refused
abbrev pub CallDone : Option model.Entry → Call → Deferred → Deferred → LaneView → LaneView → Result Did RoomFault → Type 0
CallDone now x kept more old new (Ok d) = AnswersKept now x d kept more old new
CallDone now x kept more old new (Err fault) = CallCut x kept more old new × IsFault new fault

-- the entry at hand may be handed in, if there is one
abbrev pub StandsIn : Option HeldEntry → LaneView → Type 0
StandsIn None v = ⊤
StandsIn (Some e) v = EntryStands e v

-- a call other than a publication
abbrev pub is_single : Call → Bool
is_single (call.Publish sig pars reserve) = false
is_single _ = true

-- a call on a time event
abbrev pub is_timing : Call → Bool
is_timing (call.Arm t ticks interval) = true
is_timing (call.Rearm t ticks) = true
is_timing (call.Disarm t) = true
is_timing _ = false
