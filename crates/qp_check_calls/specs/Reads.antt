-- The records that a call may still leave, and which of them there are.
use Rattle.std.specs.Prelude.{◌≡◌, ℕ, Bool, true, false, List, [], ◌∷◌, length, IsTrue, is_some}
use Rattle.std.specs.declared.option.Option.{Option}
use Rattle.std.specs.Option.{MatchOption}
use Rattle.qp_model.specs.declared.systems.System.{System}
use Rattle.qp_model.specs.declared.bodies.Entry.{Entry}
use Rattle.qp_model.specs.Told.{Told}
use Rattle.qp_model.specs.Calls as call
use Rattle.qp_model.specs.Calls.{Call, Answer}
use Rattle.qp_model.specs.Able.{has_pool}
use Rattle.qp_check_calls.specs.CallState.{CallStage, Begins, Flushes, Whole, CallState}
use Rattle.qp_check_calls.specs.CallStateNext.{call_state_next}

-- the records are what is left of a call, which ends with this answer and this deferred list
unfoldable pub IsRestOfCall : System → ℕ → Option Entry → CallState → Answer → List Entry → List Told → Type 0
unfolding call_state_next
IsRestOfCall sys o now rest answer kept [] = rest ≡ record { stage = Whole answer; kept = kept }
IsRestOfCall sys o now rest answer kept (t ∷ g) = MatchOption (call_state_next sys o now rest t) ⊥ (λ next. IsRestOfCall sys o now next answer kept g)

-- a call has what it asks for: a pool for its event, or an entry that is at hand
unfoldable pub call_able : System → Option Entry → Call → Bool
unfolding has_pool
call_able sys now (call.Post to sig pars margin reserve) = has_pool sys sig (length pars)
call_able sys now (call.Lifo sig pars reserve) = has_pool sys sig (length pars)
call_able sys now (call.Publish sig pars reserve) = has_pool sys sig (length pars)
call_able sys now (call.Forward to margin) = is_some now
call_able sys now call.Defer = is_some now
call_able sys now x = true

abbrev pub has_entries : List Entry → Bool
has_entries [] = false
has_entries (k ∷ ks) = true

-- the same of the rest of a call; a flush has no first record of its own, and goes on while there are entries
unfoldable pub stage_open : System → Option Entry → List Entry → CallStage → Bool
unfolding call_able
stage_open sys now kept (Begins room call.Flush) = false
stage_open sys now kept (Begins room x) = call_able sys now x
stage_open sys now kept (Flushes total) = has_entries kept
stage_open sys now kept s = true

-- some records are what is left
unfoldable pub IsOpen : System → Option Entry → CallState → Type 0
unfolding stage_open
IsOpen sys now rest = IsTrue (stage_open sys now rest.kept rest.stage)
