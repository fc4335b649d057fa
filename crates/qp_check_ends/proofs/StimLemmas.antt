-- No stimulus has a `stim` among its records.
use Rattle.std.proofs.Common.{◌≡◌, ℕ, zero, suc, nat_lt, length, Bool, true, false, List, [], ◌∷◌, Some, None, refl, ap}
use Rattle.std.specs.Option.{option_map}
use Rattle.std.specs.declared.option.Option.{Option}
use Rattle.qp_model.specs.declared.systems.System.{System}
use Rattle.qp_model.specs.declared.bodies.Entry.{Entry}
use Rattle.qp_model.specs.declared.bodies.Body.TheVariants as body
use Rattle.qp_model.specs.Record.{entry}
use Rattle.qp_model.specs.Told.{Nothing, plain}
use Rattle.qp_model.specs.Calls as call
use Rattle.qp_model.specs.Calls.{Call}
use Rattle.qp_model.specs.Parts.{is_static}
use Rattle.qp_check_calls.specs.CallState.{Goal, ToQueue, ToFront, ToDeferred, ToSet, CallStage, Begins, Refers, Puts, Raises, Restores, Drops, Returns, Flushes, Whole, CallState}
use Rattle.qp_check_calls.specs.CallStateNext.{queue_next, set_next, put_next, block_next, new_next, event_next, now_next, defer_next, recall_next, flush_next, arm_next, rearm_next, begin_next, stage_next, call_state_next}
use Rattle.qp_check_ends.specs.TickState.{TickState, Reaching, Fired, Vain, tick_next}
use Rattle.qp_check_ends.specs.SettleState.{SettleState, Before, Seeing, settle_next}
use Rattle.qp_check_ends.specs.Underway.{Underway, Calling, Ticking, Settling, underway_next}

module _ (sys : System) (i look : ℕ) where
  put-stim : (o : ℕ) (kept : List Entry) (goal : Goal) (e : Entry) → put_next sys o kept goal e (body.Stim i look) Nothing ≡ None
  unfolding put_next queue_next set_next
  put-stim o kept (ToQueue to margin behind) e = refl
  put-stim o kept (ToFront recalled) e = refl
  put-stim o kept ToDeferred e = refl
  put-stim o kept (ToSet sig) e = refl

  new-stim : (fixed : Bool) (o : ℕ) (kept : List Entry) (sig : ℕ) (pars : List ℕ) (reserve : Option ℕ) (goal : Goal)
      → new_next fixed sys o kept sig pars reserve goal (body.Stim i look) Nothing ≡ None
  unfolding new_next block_next
  new-stim true o kept sig pars reserve goal = put-stim o kept goal (entry 0 sig 0)
  new-stim false o kept sig pars reserve goal = refl

  event-stim : (p o : ℕ) (kept : List Entry) (goal : Goal) (e : Entry) → event_next p sys o kept goal e (body.Stim i look) Nothing ≡ None
  unfolding event_next
  event-stim zero o kept goal e = put-stim o kept goal e
  event-stim (suc p) o kept goal e = refl

  now-stim : (o : ℕ) (now : Option Entry) (kept : List Entry) (goal : Goal) → now_next sys o now kept goal (body.Stim i look) Nothing ≡ None
  unfolding now_next
  now-stim o None kept goal = refl
  now-stim o (Some e) kept goal = event-stim e.pool o kept goal e

  defer-stim : (room : Bool) (o : ℕ) (now : Option Entry) (kept : List Entry) → defer_next room sys o now kept (body.Stim i look) Nothing ≡ None
  unfolding defer_next
  defer-stim true o now kept = now-stim o now kept ToDeferred
  defer-stim false o now kept = refl

  recall-stim : (kept : List Entry) → recall_next kept (body.Stim i look) Nothing ≡ None
  recall-stim [] = refl
  recall-stim (k ∷ others) = refl

  flush-stim : (kept : List Entry) (total : ℕ) → flush_next kept total (body.Stim i look) Nothing ≡ None
  flush-stim [] total = refl
  flush-stim (k ∷ others) total = refl

  begin-stim : (o : ℕ) (now : Option Entry) (kept : List Entry) (room : ℕ) (x : Call) → begin_next sys o now kept room x (body.Stim i look) Nothing ≡ None
  unfolding begin_next arm_next rearm_next
  begin-stim o now kept room (call.Post to sig pars margin reserve) = new-stim (is_static sys sig) o kept sig pars reserve _
  begin-stim o now kept room (call.Lifo sig pars reserve) = new-stim (is_static sys sig) o kept sig pars reserve _
  begin-stim o now kept room (call.Forward to margin) = now-stim o now kept _
  begin-stim o now kept room (call.Publish sig pars reserve) = new-stim (is_static sys sig) o kept sig pars reserve _
  begin-stim o now kept room call.Defer = defer-stim (nat_lt (length kept) room) o now kept
  begin-stim o now kept room call.Recall = recall-stim kept
  begin-stim o now kept room call.Flush = refl
  begin-stim o now kept room (call.Subscribe sig) = refl
  begin-stim o now kept room (call.Unsubscribe sig) = refl
  begin-stim o now kept room (call.Arm t ticks interval) = refl
  begin-stim o now kept room (call.Rearm t ticks) = refl
  begin-stim o now kept room (call.Disarm t) = refl

  stage-stim : (o : ℕ) (now : Option Entry) (kept : List Entry) (s : CallStage) → stage_next sys o now kept s (body.Stim i look) Nothing ≡ None
  unfolding stage_next
  stage-stim o now kept (Begins room x) = begin-stim o now kept room x
  stage-stim o now kept (Refers p b goal) = refl
  stage-stim o now kept (Puts goal e) = put-stim o kept goal e
  stage-stim o now kept (Raises own a others) = refl
  stage-stim o now kept (Restores own former) = refl
  stage-stim o now kept (Drops e behind) = refl
  stage-stim o now kept (Returns p b d behind) = refl
  stage-stim o now kept (Flushes total) = flush-stim kept total
  stage-stim o now kept (Whole answer) = refl

  call-stim : (rest : CallState) → call_state_next sys 0 None rest (plain (body.Stim i look)) ≡ None
  unfolding call_state_next
  call-stim rest = rw (stage-stim 0 None rest.kept rest.stage) refl

  tick-stim : (rest : TickState) → tick_next sys rest (plain (body.Stim i look)) ≡ None
  unfolding tick_next
  tick-stim (Reaching []) = refl
  tick-stim (Reaching (x ∷ left)) = refl
  tick-stim (Fired object sig left) = refl
  tick-stim Vain = refl

  settle-stim : (kernel : ℕ) (rest : SettleState) → settle_next sys kernel rest (plain (body.Stim i look)) ≡ None
  unfolding settle_next
  settle-stim kernel (Before tried) = refl
  settle-stim kernel (Seeing []) = refl
  settle-stim kernel (Seeing (o ∷ left)) = refl

  pub underway-stim : (kernel : ℕ) (u : Underway) → underway_next sys kernel u (plain (body.Stim i look)) ≡ None
  unfolding underway_next
  underway-stim kernel (Calling rest) = ap (option_map Calling) (call-stim rest)
  underway-stim kernel (Ticking rest) = ap (option_map Ticking) (tick-stim rest)
  underway-stim kernel (Settling rest) = ap (option_map Settling) (settle-stim kernel rest)
