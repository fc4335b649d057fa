-- No record of a call begins or ends a step.
use Rattle.std.proofs.Common.{◌≡◌, ℕ, zero, suc, Bool, true, false, List, [], ◌∷◌, refl, ap, sym, ◌∙◌, subst, inl, inr, ◌⊎◌, Option, Some, None}
use Rattle.std.specs.Option.{option_map}
use Rattle.qp_model.specs.declared.systems.System.{System}
use Rattle.qp_model.specs.declared.bodies.Entry.{Entry}
use Rattle.qp_model.specs.declared.bodies.Body.{Body}
use Rattle.qp_model.specs.declared.bodies.Body.TheVariants as item
use Rattle.qp_model.specs.Calls as call
use Rattle.qp_model.specs.Calls.{Call}
use Rattle.qp_model.specs.Record.{entry}
use Rattle.qp_model.specs.Told.{Told, Known}
use Rattle.qp_model.specs.Parts.{is_static, sizes_of}
use Rattle.qp_model.specs.OutputSummary.{is_took, is_done_record}
use Rattle.qp_check_calls.specs.CallState.{Behind, Goal, ToQueue, ToFront, ToDeferred, ToSet, CallStage, Begins, Refers, Puts, Raises, Restores, Drops, Returns, Flushes, Whole, CallState}
use Rattle.qp_check_calls.specs.CallStateNext as next
use Rattle.qp_check_calls.specs.CallStateNext.{call_state_next, stage_next, put_next}

-- a record that begins a step, or ends it
data Mark : Type 0 where
  Ends : Mark
  Takes : (f l m : ℕ) (e : Entry) → Mark

abbrev mark_body : Mark → Body
mark_body Ends = item.Done
mark_body (Takes f l m e) = item.Took f l m e

refer-none : (p q : ℕ) (goal : Goal) (m : Mark) (known : Known) → next.refer_next p q goal (mark_body m) known ≡ None
refer-none p q goal Ends known = refl
refer-none p q goal (Takes f1 l1 m1 e1) known = refl

queue-none : (kept : List Entry) (ring to : ℕ) (margin : Option ℕ) (behind : Behind) (e : Entry) (m : Mark) (known : Known) → next.queue_next kept ring to margin behind e (mark_body m) known ≡ None
unfolding next.queue_next
queue-none kept ring to margin behind e Ends known = refl
queue-none kept ring to margin behind e (Takes f1 l1 m1 e1) known = refl

front-none : (o : ℕ) (recalled : Option Entry) (e : Entry) (m : Mark) (known : Known) → next.front_next o recalled e (mark_body m) known ≡ None
front-none o recalled e Ends known = refl
front-none o recalled e (Takes f1 l1 m1 e1) known = refl

deferred-none : (e : Entry) (m : Mark) (known : Known) → next.deferred_next e (mark_body m) known ≡ None
deferred-none e Ends known = refl
deferred-none e (Takes f1 l1 m1 e1) known = refl

set-none : (o sig : ℕ) (e : Entry) (m : Mark) (known : Known) → next.set_next o sig e (mark_body m) known ≡ None
unfolding next.set_next
set-none o sig e Ends known = refl
set-none o sig e (Takes f1 l1 m1 e1) known = refl

raise-none : (own : Entry) (x : ℕ) (others : List ℕ) (m : Mark) (known : Known) → next.raise_next own x others (mark_body m) known ≡ None
raise-none own x others Ends known = refl
raise-none own x others (Takes f1 l1 m1 e1) known = refl

restore-none : (own : Entry) (former : ℕ) (m : Mark) (known : Known) → next.restore_next own former (mark_body m) known ≡ None
restore-none own former Ends known = refl
restore-none own former (Takes f1 l1 m1 e1) known = refl

drop-none : (kept : List Entry) (e : Entry) (behind : Behind) (m : Mark) (known : Known) → next.drop_next kept e behind (mark_body m) known ≡ None
drop-none kept e behind Ends known = refl
drop-none kept e behind (Takes f1 l1 m1 e1) known = refl

return-none : (kept : List Entry) (p q d : ℕ) (behind : Behind) (m : Mark) (known : Known) → next.return_next kept p q d behind (mark_body m) known ≡ None
return-none kept p q d behind Ends known = refl
return-none kept p q d behind (Takes f1 l1 m1 e1) known = refl

flushed-none : (total : ℕ) (k : Entry) (others : List Entry) (m : Mark) (known : Known) → next.flushed_next total k others (mark_body m) known ≡ None
flushed-none total k others Ends known = refl
flushed-none total k others (Takes f1 l1 m1 e1) known = refl

block-none : (sizes : List ℕ) (sig : ℕ) (pars : List ℕ) (reserve : Option ℕ) (goal : Goal) (m : Mark) (known : Known) → next.block_next sizes sig pars reserve goal (mark_body m) known ≡ None
unfolding next.block_next
block-none sizes sig pars reserve goal Ends known = refl
block-none sizes sig pars reserve goal (Takes f1 l1 m1 e1) known = refl

full-none : (m : Mark) (known : Known) → next.full_next (mark_body m) known ≡ None
full-none Ends known = refl
full-none (Takes f1 l1 m1 e1) known = refl

no-recall-none : (m : Mark) (known : Known) → next.none_next (mark_body m) known ≡ None
no-recall-none Ends known = refl
no-recall-none (Takes f1 l1 m1 e1) known = refl

recalled-none : (k : Entry) (m : Mark) (known : Known) → next.recalled_next k (mark_body m) known ≡ None
recalled-none k Ends known = refl
recalled-none k (Takes f1 l1 m1 e1) known = refl

subscribe-none : (sig : ℕ) (m : Mark) (known : Known) → next.subscribe_next sig (mark_body m) known ≡ None
subscribe-none sig Ends known = refl
subscribe-none sig (Takes f1 l1 m1 e1) known = refl

unsubscribe-none : (sig : ℕ) (m : Mark) (known : Known) → next.unsubscribe_next sig (mark_body m) known ≡ None
unsubscribe-none sig Ends known = refl
unsubscribe-none sig (Takes f1 l1 m1 e1) known = refl

arm-none : (t ticks interval : ℕ) (m : Mark) (known : Known) → next.arm_next t ticks interval (mark_body m) known ≡ None
unfolding next.arm_next
arm-none t ticks interval Ends known = refl
arm-none t ticks interval (Takes f1 l1 m1 e1) known = refl

rearm-none : (t ticks : ℕ) (m : Mark) (known : Known) → next.rearm_next t ticks (mark_body m) known ≡ None
unfolding next.rearm_next
rearm-none t ticks Ends known = refl
rearm-none t ticks (Takes f1 l1 m1 e1) known = refl

disarm-none : (t : ℕ) (m : Mark) (known : Known) → next.disarm_next t (mark_body m) known ≡ None
disarm-none t Ends known = refl
disarm-none t (Takes f1 l1 m1 e1) known = refl

module _ (sys : System) (o : ℕ) (b : Mark) (known : Known) where
  put-none : (kept : List Entry) (goal : Goal) (e : Entry) → put_next sys o kept goal e (mark_body b) known ≡ None
  unfolding next.put_next
  put-none kept (ToQueue to margin behind) e = queue-none kept _ to margin behind e b known
  put-none kept (ToFront recalled) e = front-none o recalled e b known
  put-none kept ToDeferred e = deferred-none e b known
  put-none kept (ToSet sig) e = set-none o sig e b known

  flush-none : (kept : List Entry) (total : ℕ) → next.flush_next kept total (mark_body b) known ≡ None
  flush-none [] total = refl
  flush-none (k ∷ others) total = flushed-none total k others b known

  new-none : (still : Bool) (kept : List Entry) (sig : ℕ) (pars : List ℕ) (reserve : Option ℕ) (goal : Goal)
      → next.new_next still sys o kept sig pars reserve goal (mark_body b) known ≡ None
  unfolding next.new_next
  new-none true kept sig pars reserve goal = put-none kept goal (entry 0 sig 0)
  new-none false kept sig pars reserve goal = block-none (sizes_of sys) sig pars reserve goal b known

  event-none : (p : ℕ) (kept : List Entry) (goal : Goal) (e : Entry) → next.event_next p sys o kept goal e (mark_body b) known ≡ None
  unfolding next.event_next
  event-none zero kept goal e = put-none kept goal e
  event-none (suc p) kept goal e = refer-none e.pool e.block goal b known

  now-none : (now : Option Entry) (kept : List Entry) (goal : Goal) → next.now_next sys o now kept goal (mark_body b) known ≡ None
  unfolding next.now_next
  now-none None kept goal = refl
  now-none (Some e) kept goal = event-none e.pool kept goal e

  defer-none : (room : Bool) (now : Option Entry) (kept : List Entry) → next.defer_next room sys o now kept (mark_body b) known ≡ None
  unfolding next.defer_next
  defer-none true now kept = now-none now kept ToDeferred
  defer-none false now kept = full-none b known

  recall-none : (kept : List Entry) → next.recall_next kept (mark_body b) known ≡ None
  recall-none [] = no-recall-none b known
  recall-none (k ∷ others) = recalled-none k b known

  begin-none : (now : Option Entry) (kept : List Entry) (room : ℕ) (x : Call) → next.begin_next sys o now kept room x (mark_body b) known ≡ None
  unfolding next.begin_next
  begin-none now kept room (call.Post to sig pars margin reserve) = new-none (is_static sys sig) kept sig pars reserve _
  begin-none now kept room (call.Lifo sig pars reserve) = new-none (is_static sys sig) kept sig pars reserve _
  begin-none now kept room (call.Forward to margin) = now-none now kept _
  begin-none now kept room (call.Publish sig pars reserve) = new-none (is_static sys sig) kept sig pars reserve _
  begin-none now kept room call.Defer = defer-none _ now kept
  begin-none now kept room call.Recall = recall-none kept
  begin-none now kept room call.Flush = refl
  begin-none now kept room (call.Subscribe sig) = subscribe-none sig b known
  begin-none now kept room (call.Unsubscribe sig) = unsubscribe-none sig b known
  begin-none now kept room (call.Arm t ticks interval) = arm-none _ ticks interval b known
  begin-none now kept room (call.Rearm t ticks) = rearm-none _ ticks b known
  begin-none now kept room (call.Disarm t) = disarm-none _ b known

  stage-none : (now : Option Entry) (kept : List Entry) (s : CallStage) → stage_next sys o now kept s (mark_body b) known ≡ None
  unfolding next.stage_next
  stage-none now kept (Begins room x) = begin-none now kept room x
  stage-none now kept (Refers p q goal) = refer-none p q goal b known
  stage-none now kept (Puts goal e) = put-none kept goal e
  stage-none now kept (Raises own x others) = raise-none own x others b known
  stage-none now kept (Restores own former) = restore-none own former b known
  stage-none now kept (Drops e behind) = drop-none kept e behind b known
  stage-none now kept (Returns p q d behind) = return-none kept p q d behind b known
  stage-none now kept (Flushes total) = flush-none kept total
  stage-none now kept (Whole answer) = refl

-- each record is one of these, or neither
neither : (b : Body) → ((k : Mark) × (b ≡ mark_body k)) ⊎ ((is_done_record b ≡ false) × (is_took b ≡ false))
neither item.Done = inl (Ends, refl)
neither (item.Took f l m e) = inl (Takes f l m e, refl)
neither b = inr (refl, refl)

-- a record of a call
pub call-plain : (sys : System) (o : ℕ) (now : Option Entry) (rest : CallState) (t : Told) (more : CallState) → call_state_next sys o now rest t ≡ Some more
    → (is_done_record t.body ≡ false) × (is_took t.body ≡ false)
unfolding call_state_next
call-plain sys o now rest t more e = by (neither t.body)
  where
    by : ((k : Mark) × (t.body ≡ mark_body k)) ⊎ ((is_done_record t.body ≡ false) × (is_took t.body ≡ false)) → (is_done_record t.body ≡ false) × (is_took t.body ≡ false)
    by (inl (k, is)) =
        let none : stage_next sys o now rest.kept rest.stage t.body t.known ≡ None =
        subst (λ b. stage_next sys o now rest.kept rest.stage b t.known ≡ None) (sym is) (stage-none sys o k t.known now rest.kept rest.stage) in
        let wrong : None ≡ Some more = sym (ap (λ o. option_map (λ s. record { stage = s; kept = next.list_after rest.kept t.body }) o) none) ∙ e in absurd (cc)
    by (inr plain) = plain
