-- The records of calls that leave one record.
use Rattle.std.proofs.Common.{◌≡◌, ◌↔◌, ℕ, zero, suc, ◌==◌, Bool, true, false, not, ◌&&◌, List, [], ◌∷◌, IsTrue, Some, refl, sym, subst, arith}
use Rattle.std.proofs.lemmas.Bool.{not-true}
use Rattle.std.proofs.lemmas.Bool.Decides.{nat_tests}
use Rattle.std.specs.declared.option.Option.{Option}
use Rattle.qp_model.specs.declared.systems.System.{System}
use Rattle.qp_model.specs.declared.bodies.Entry.{Entry}
use Rattle.qp_model.specs.declared.bodies.Body.{Body}
use Rattle.qp_model.specs.declared.bodies.Body.TheVariants as item
use Rattle.qp_model.specs.Told.{Told, Known, Nothing, Member, plain, same_in}
use Rattle.qp_model.specs.Calls as call
use Rattle.qp_model.specs.Calls.{Call, Answer, Granted, Refused, AtTimer, AtTicks}
use Rattle.qp_model.specs.Parts.{timer_number}
use Rattle.qp_model.specs.Shapes.{Fits, Subscribes, Unsubscribes, Arms, Rearms, Disarms, answers_ticks, ticks_fit}
use Rattle.qp_model.specs.Deferral.{KeepsDeferred}
use Rattle.qp_model.proofs.LineLemmas.{same_number}
use Rattle.qp_check_calls.specs.CallState.{CallStage, Begins, Whole}
use Rattle.qp_check_calls.specs.CallStateNext.{stage_next, begin_next, subscribe_next, unsubscribe_next, arm_next, rearm_next, was_armed, disarm_next, list_after, only}
use Rattle.qp_check_calls.proofs.ReadLemmas.{At, at-step, at-stepped, at-ended, at-whole}
use Rattle.qp_model.proofs.RecordLemmas.{told-is}
use Rattle.qp_check_calls.proofs.StageLemmas.{only-passed}

-- values that are refused are none for a timer, and no others are
abbrev ArmsFit : ℕ → ℕ → ℕ → Answer → List Told → Type 0
ArmsFit t ticks interval answer g = Arms t ticks interval answer g × IsTrue (answers_ticks (ticks_fit ticks interval) answer)

abbrev RearmsFit : ℕ → ℕ → Answer → List Told → Type 0
RearmsFit t ticks answer g = Rearms t ticks answer g × IsTrue (answers_ticks (ticks_fit ticks 0) answer)

module _ (sys : System) (o : ℕ) (now : Option Entry) (kept : List Entry) (a : Answer) (k : List Entry) (room : ℕ) where
  -- a record that ends a call
  ends : (x : Call) (b : Answer) (passed : Bool) (next : CallStage) (g : List Told) → only passed (Whole b) ≡ Some next → At sys o now kept next a k g
      → (passed ≡ true) × (g ≡ []) × (a ≡ b) × (k ≡ kept)
  ends x b passed next g is h =
      let one = only-passed passed (Whole b) next is in
      let last = (at-whole sys o now kept b a k g).0 (subst (λ s. At sys o now kept s a k g) (sym one.1) h) in
      (one.0, last.0, last.1, last.2)

  ended : (b : Answer) → a ≡ b → k ≡ kept → At sys o now kept (Whole b) a k []
  ended b q r = (at-whole sys o now kept b a k []).1 (refl, q, r)

  begin-subscribe : (sig : ℕ) (g : List Told) → At sys o now kept (Begins room (call.Subscribe sig)) a k g ↔ (Subscribes sig a g × (k ≡ kept))
  unfolding stage_next begin_next Subscribes
  begin-subscribe sig g = (out g, λ h. into a refl g h.0 h.1)
    where
      by : (t : Told) (g : List Told) (body : Body) (known : Known) → t.body ≡ body → t.known ≡ known → (next : CallStage)
          → subscribe_next sig body known ≡ Some next → At sys o now (list_after kept body) next a k g → Subscribes sig a (t ∷ g) × (k ≡ kept)
      by t g (item.Sub s n) Nothing is_body is_known next f more =
          let last = ends (call.Subscribe sig) Granted (s == sig) next g f more in
          let test : (s == sig) ≡ true = last.0 in
          let e1 : s ≡ sig = grind (arith, nat_tests) in
          let whole : t ≡ plain (item.Sub s n) = told-is t _ _ is_body is_known in
          let end : g ≡ [] = last.1 in
          (subst (λ x. Subscribes sig x (t ∷ g)) (sym last.2) (n, cc), last.3)
      by t g (item.Same s n) (Member true) is_body is_known next f more =
          let last = ends (call.Subscribe sig) Refused (s == sig) next g f more in
          let test : (s == sig) ≡ true = last.0 in
          let e1 : s ≡ sig = grind (arith, nat_tests) in
          let whole : t ≡ same_in s n true = told-is t _ _ is_body is_known in
          let end : g ≡ [] = last.1 in
          (subst (λ x. Subscribes sig x (t ∷ g)) (sym last.2) (n, cc), last.3)
      by t g body known is_body is_known next f more = absurd (cc)

      out : (g : List Told) → At sys o now kept (Begins room (call.Subscribe sig)) a k g → Subscribes sig a g × (k ≡ kept)
      out [] h = absurd (cc ((at-ended sys o now kept (Begins room (call.Subscribe sig)) a k h).0))
      out (t ∷ g) h = let one = at-stepped sys o now kept (Begins room (call.Subscribe sig)) a k t g h in by t g t.body t.known refl refl one.0 one.1 one.2

      into : (b : Answer) → a ≡ b → (g : List Told) → Subscribes sig b g → k ≡ kept → At sys o now kept (Begins room (call.Subscribe sig)) a k g
      into Granted q g h r = rw h.1 (at-step sys o now kept _ (Whole Granted) a k _ [] (rw (same_number sig) refl) (ended Granted q r))
      into Refused q g h r = rw h.1 (at-step sys o now kept _ (Whole Refused) a k _ [] (rw (same_number sig) refl) (ended Refused q r))
      into b q g h r = absurd h

  begin-unsubscribe : (sig : ℕ) (g : List Told) → At sys o now kept (Begins room (call.Unsubscribe sig)) a k g ↔ (Unsubscribes sig a g × (k ≡ kept))
  unfolding stage_next begin_next Unsubscribes
  begin-unsubscribe sig g = (out g, λ h. into a refl g h.0 h.1)
    where
      by : (t : Told) (g : List Told) (body : Body) (known : Known) → t.body ≡ body → t.known ≡ known → (next : CallStage)
          → unsubscribe_next sig body known ≡ Some next → At sys o now (list_after kept body) next a k g → Unsubscribes sig a (t ∷ g) × (k ≡ kept)
      by t g (item.Unsub s n) Nothing is_body is_known next f more =
          let last = ends (call.Unsubscribe sig) Granted (s == sig) next g f more in
          let test : (s == sig) ≡ true = last.0 in
          let e1 : s ≡ sig = grind (arith, nat_tests) in
          let whole : t ≡ plain (item.Unsub s n) = told-is t _ _ is_body is_known in
          let end : g ≡ [] = last.1 in
          (subst (λ x. Unsubscribes sig x (t ∷ g)) (sym last.2) (n, cc), last.3)
      by t g (item.Same s n) (Member false) is_body is_known next f more =
          let last = ends (call.Unsubscribe sig) Refused (s == sig) next g f more in
          let test : (s == sig) ≡ true = last.0 in
          let e1 : s ≡ sig = grind (arith, nat_tests) in
          let whole : t ≡ same_in s n false = told-is t _ _ is_body is_known in
          let end : g ≡ [] = last.1 in
          (subst (λ x. Unsubscribes sig x (t ∷ g)) (sym last.2) (n, cc), last.3)
      by t g body known is_body is_known next f more = absurd (cc)

      out : (g : List Told) → At sys o now kept (Begins room (call.Unsubscribe sig)) a k g → Unsubscribes sig a g × (k ≡ kept)
      out [] h = absurd (cc ((at-ended sys o now kept (Begins room (call.Unsubscribe sig)) a k h).0))
      out (t ∷ g) h = let one = at-stepped sys o now kept (Begins room (call.Unsubscribe sig)) a k t g h in by t g t.body t.known refl refl one.0 one.1 one.2

      into : (b : Answer) → a ≡ b → (g : List Told) → Unsubscribes sig b g → k ≡ kept → At sys o now kept (Begins room (call.Unsubscribe sig)) a k g
      into Granted q g h r = rw h.1 (at-step sys o now kept _ (Whole Granted) a k _ [] (rw (same_number sig) refl) (ended Granted q r))
      into Refused q g h r = rw h.1 (at-step sys o now kept _ (Whole Refused) a k _ [] (rw (same_number sig) refl) (ended Refused q r))
      into b q g h r = absurd h

  begin-disarm : (place : ℕ) (g : List Told)
      → At sys o now kept (Begins room (call.Disarm place)) a k g ↔ (Disarms (timer_number sys.timers o place) a g × (k ≡ kept))
  unfolding stage_next begin_next Disarms
  begin-disarm place g = (out g, λ h. into a refl g h.0 h.1)
    where
      timer : ℕ
      timer = timer_number sys.timers o place

      by : (t : Told) (g : List Told) (body : Body) (known : Known) → t.body ≡ body → t.known ≡ known → (next : CallStage)
          → disarm_next timer body known ≡ Some next → At sys o now (list_after kept body) next a k g → Disarms timer a (t ∷ g) × (k ≡ kept)
      by t g (item.Disarm u n former) Nothing is_body is_known next f more =
          let last = ends (call.Disarm place) Granted (u == timer) next g f more in
          let test : (u == timer) ≡ true = last.0 in
          let e1 : u ≡ timer = grind (arith, nat_tests) in
          let whole : t ≡ plain (item.Disarm u n former) = told-is t _ _ is_body is_known in
          let end : g ≡ [] = last.1 in
          (subst (λ x. Disarms timer x (t ∷ g)) (sym last.2) (n, former, cc), last.3)
      by t g (item.Idle u n) Nothing is_body is_known next f more =
          let last = ends (call.Disarm place) Refused (u == timer) next g f more in
          let test : (u == timer) ≡ true = last.0 in
          let e1 : u ≡ timer = grind (arith, nat_tests) in
          let whole : t ≡ plain (item.Idle u n) = told-is t _ _ is_body is_known in
          let end : g ≡ [] = last.1 in
          (subst (λ x. Disarms timer x (t ∷ g)) (sym last.2) (n, cc), last.3)
      by t g body known is_body is_known next f more = absurd (cc)

      out : (g : List Told) → At sys o now kept (Begins room (call.Disarm place)) a k g → Disarms timer a g × (k ≡ kept)
      out [] h = absurd (cc ((at-ended sys o now kept (Begins room (call.Disarm place)) a k h).0))
      out (t ∷ g) h = let one = at-stepped sys o now kept (Begins room (call.Disarm place)) a k t g h in by t g t.body t.known refl refl one.0 one.1 one.2

      into : (b : Answer) → a ≡ b → (g : List Told) → Disarms timer b g → k ≡ kept → At sys o now kept (Begins room (call.Disarm place)) a k g
      into Granted q g h r = rw h.2 (at-step sys o now kept _ (Whole Granted) a k _ [] (rw (same_number timer) refl) (ended Granted q r))
      into Refused q g h r = rw h.1 (at-step sys o now kept _ (Whole Refused) a k _ [] (rw (same_number timer) refl) (ended Refused q r))
      into b q g h r = absurd h

  begin-arm : (place ticks interval : ℕ) (g : List Told)
      → At sys o now kept (Begins room (call.Arm place ticks interval)) a k g ↔ (ArmsFit (timer_number sys.timers o place) ticks interval a g × (k ≡ kept))
  unfolding stage_next begin_next arm_next Arms
  begin-arm place ticks interval g = (out g, λ h. into a refl g h.0 h.1)
    where
      timer : ℕ
      timer = timer_number sys.timers o place

      x : Call
      x = call.Arm place ticks interval

      by : (t : Told) (g : List Told) (body : Body) (known : Known) → t.body ≡ body → t.known ≡ known → (next : CallStage)
          → arm_next timer ticks interval body known ≡ Some next → At sys o now (list_after kept body) next a k g → ArmsFit timer ticks interval a (t ∷ g) × (k ≡ kept)
      by t g (item.Arm u n kk i) Nothing is_body is_known next f more =
          let last = ends x Granted ((u == timer) && (kk == ticks) && (i == interval) && ticks_fit ticks interval) next g f more in
          let test : ((u == timer) && (kk == ticks) && (i == interval) && ticks_fit ticks interval) ≡ true = last.0 in
          let e1 : u ≡ timer = grind (arith, nat_tests) in
          let e2 : kk ≡ ticks = grind (arith, nat_tests) in
          let e3 : i ≡ interval = grind (arith, nat_tests) in
          let fit : ticks_fit ticks interval ≡ true = grind (arith, nat_tests) in
          let whole : t ≡ plain (item.Arm u n kk i) = told-is t _ _ is_body is_known in
          let end : g ≡ [] = last.1 in
          (subst (λ b. ArmsFit timer ticks interval b (t ∷ g)) (sym last.2) ((n, cc), fit), last.3)
      by t g (item.Armed u n c) Nothing is_body is_known next f more =
          let last = ends x AtTimer ((u == timer) && ticks_fit ticks interval) next g f more in
          let test : ((u == timer) && ticks_fit ticks interval) ≡ true = last.0 in
          let e1 : u ≡ timer = grind (arith, nat_tests) in
          let fit : ticks_fit ticks interval ≡ true = grind (arith, nat_tests) in
          let whole : t ≡ plain (item.Armed u n c) = told-is t _ _ is_body is_known in
          let end : g ≡ [] = last.1 in
          (subst (λ b. ArmsFit timer ticks interval b (t ∷ g)) (sym last.2) ((n, c, cc), fit), last.3)
      by t g (item.BadTicks u kk i) Nothing is_body is_known next f more =
          let last = ends x AtTicks ((u == timer) && (kk == ticks) && (i == interval) && not (ticks_fit ticks interval)) next g f more in
          let test : ((u == timer) && (kk == ticks) && (i == interval) && not (ticks_fit ticks interval)) ≡ true = last.0 in
          let e1 : u ≡ timer = grind (arith, nat_tests) in
          let e2 : kk ≡ ticks = grind (arith, nat_tests) in
          let e3 : i ≡ interval = grind (arith, nat_tests) in
          let fit : ticks_fit ticks interval ≡ false = grind (arith, nat_tests) in
          let whole : t ≡ plain (item.BadTicks u kk i) = told-is t _ _ is_body is_known in
          let end : g ≡ [] = last.1 in
          (subst (λ b. ArmsFit timer ticks interval b (t ∷ g)) (sym last.2) (cc, rw fit refl), last.3)
      by t g body known is_body is_known next f more = absurd (cc)

      out : (g : List Told) → At sys o now kept (Begins room x) a k g → ArmsFit timer ticks interval a g × (k ≡ kept)
      out [] h = absurd (cc ((at-ended sys o now kept (Begins room x) a k h).0))
      out (t ∷ g) h = let one = at-stepped sys o now kept (Begins room x) a k t g h in by t g t.body t.known refl refl one.0 one.1 one.2

      into : (b : Answer) → a ≡ b → (g : List Told) → ArmsFit timer ticks interval b g → k ≡ kept → At sys o now kept (Begins room x) a k g
      into Granted q g h r =
          let fit : ticks_fit ticks interval ≡ true = h.1 in
          rw h.0.1 (at-step sys o now kept _ (Whole Granted) a k _ [] (rw (same_number timer, same_number ticks, same_number interval, fit) refl) (ended Granted q r))
      into AtTimer q g h r =
          let fit : ticks_fit ticks interval ≡ true = h.1 in
          rw h.0.2 (at-step sys o now kept _ (Whole AtTimer) a k _ [] (rw (same_number timer, fit) refl) (ended AtTimer q r))
      into AtTicks q g h r =
          let fit : ticks_fit ticks interval ≡ false = not-true (ticks_fit ticks interval) h.1 in
          rw h.0 (at-step sys o now kept _ (Whole AtTicks) a k _ [] (rw (same_number timer, same_number ticks, same_number interval, fit) refl) (ended AtTicks q r))
      into b q g h r = absurd h.0

  begin-rearm : (place ticks : ℕ) (g : List Told)
      → At sys o now kept (Begins room (call.Rearm place ticks)) a k g ↔ (RearmsFit (timer_number sys.timers o place) ticks a g × (k ≡ kept))
  unfolding stage_next begin_next rearm_next Rearms
  begin-rearm place ticks g = (out g, λ h. into a refl g h.0 h.1)
    where
      timer : ℕ
      timer = timer_number sys.timers o place

      x : Call
      x = call.Rearm place ticks

      armed : (t : Told) (g : List Told) (n former : ℕ) → t ≡ plain (item.Rearm timer n former ticks) → g ≡ [] → ticks_fit ticks 0 ≡ true → a ≡ was_armed former
          → RearmsFit timer ticks a (t ∷ g)
      armed t g n zero whole end fit q = subst (λ b. RearmsFit timer ticks b (t ∷ g)) (sym q) ((n, cc), fit)
      armed t g n (suc former) whole end fit q = subst (λ b. RearmsFit timer ticks b (t ∷ g)) (sym q) ((n, former, cc), fit)

      by : (t : Told) (g : List Told) (body : Body) (known : Known) → t.body ≡ body → t.known ≡ known → (next : CallStage)
          → rearm_next timer ticks body known ≡ Some next → At sys o now (list_after kept body) next a k g → RearmsFit timer ticks a (t ∷ g) × (k ≡ kept)
      by t g (item.Rearm u n former kk) Nothing is_body is_known next f more =
          let last = ends x (was_armed former) ((u == timer) && (kk == ticks) && ticks_fit ticks 0) next g f more in
          let test : ((u == timer) && (kk == ticks) && ticks_fit ticks 0) ≡ true = last.0 in
          let e1 : u ≡ timer = grind (arith, nat_tests) in
          let e2 : kk ≡ ticks = grind (arith, nat_tests) in
          let fit : ticks_fit ticks 0 ≡ true = grind (arith, nat_tests) in
          let whole : t ≡ plain (item.Rearm u n former kk) = told-is t _ _ is_body is_known in
          (armed t g n former (cc) last.1 fit last.2, last.3)
      by t g (item.BadTicks u kk i) Nothing is_body is_known next f more =
          let last = ends x AtTicks ((u == timer) && (kk == ticks) && (i == 0) && not (ticks_fit ticks 0)) next g f more in
          let test : ((u == timer) && (kk == ticks) && (i == 0) && not (ticks_fit ticks 0)) ≡ true = last.0 in
          let e1 : u ≡ timer = grind (arith, nat_tests) in
          let e2 : kk ≡ ticks = grind (arith, nat_tests) in
          let e3 : i ≡ 0 = grind (arith, nat_tests) in
          let fit : ticks_fit ticks 0 ≡ false = grind (arith, nat_tests) in
          let whole : t ≡ plain (item.BadTicks u kk i) = told-is t _ _ is_body is_known in
          let end : g ≡ [] = last.1 in
          (subst (λ b. RearmsFit timer ticks b (t ∷ g)) (sym last.2) (cc, rw fit refl), last.3)
      by t g body known is_body is_known next f more = absurd (cc)

      out : (g : List Told) → At sys o now kept (Begins room x) a k g → RearmsFit timer ticks a g × (k ≡ kept)
      out [] h = absurd (cc ((at-ended sys o now kept (Begins room x) a k h).0))
      out (t ∷ g) h = let one = at-stepped sys o now kept (Begins room x) a k t g h in by t g t.body t.known refl refl one.0 one.1 one.2

      into : (b : Answer) → a ≡ b → (g : List Told) → RearmsFit timer ticks b g → k ≡ kept → At sys o now kept (Begins room x) a k g
      into Granted q g h r =
          let fit : ticks_fit ticks 0 ≡ true = h.1 in
          rw h.0.2 (at-step sys o now kept _ (Whole Granted) a k _ [] (rw (same_number timer, same_number ticks, fit) refl) (ended Granted q r))
      into Refused q g h r =
          let fit : ticks_fit ticks 0 ≡ true = h.1 in
          rw h.0.1 (at-step sys o now kept _ (Whole Refused) a k _ [] (rw (same_number timer, same_number ticks, fit) refl) (ended Refused q r))
      into AtTicks q g h r =
          let fit : ticks_fit ticks 0 ≡ false = not-true (ticks_fit ticks 0) h.1 in
          rw h.0 (at-step sys o now kept _ (Whole AtTicks) a k _ [] (rw (same_number timer, same_number ticks, fit) refl) (ended AtTicks q r))
      into b q g h r = absurd h.0

  -- the same as the definitions say it
  pub begin-single-subscribe : (sig : ℕ) (g : List Told)
      → At sys o now kept (Begins room (call.Subscribe sig)) a k g ↔ (Fits sys o now (call.Subscribe sig) a g × KeepsDeferred room (call.Subscribe sig) g kept k)
  unfolding Fits KeepsDeferred
  begin-single-subscribe sig g = begin-subscribe sig g

  pub begin-single-unsubscribe : (sig : ℕ) (g : List Told)
      → At sys o now kept (Begins room (call.Unsubscribe sig)) a k g ↔ (Fits sys o now (call.Unsubscribe sig) a g × KeepsDeferred room (call.Unsubscribe sig) g kept k)
  unfolding Fits KeepsDeferred
  begin-single-unsubscribe sig g = begin-unsubscribe sig g

  pub begin-single-arm : (t ticks interval : ℕ) (g : List Told)
      → At sys o now kept (Begins room (call.Arm t ticks interval)) a k g
      ↔ (Fits sys o now (call.Arm t ticks interval) a g × KeepsDeferred room (call.Arm t ticks interval) g kept k)
  unfolding Fits KeepsDeferred
  begin-single-arm t ticks interval g = begin-arm t ticks interval g

  pub begin-single-rearm : (t ticks : ℕ) (g : List Told)
      → At sys o now kept (Begins room (call.Rearm t ticks)) a k g ↔ (Fits sys o now (call.Rearm t ticks) a g × KeepsDeferred room (call.Rearm t ticks) g kept k)
  unfolding Fits KeepsDeferred
  begin-single-rearm t ticks g = begin-rearm t ticks g

  pub begin-single-disarm : (t : ℕ) (g : List Told)
      → At sys o now kept (Begins room (call.Disarm t)) a k g ↔ (Fits sys o now (call.Disarm t) a g × KeepsDeferred room (call.Disarm t) g kept k)
  unfolding Fits KeepsDeferred
  begin-single-disarm t g = begin-disarm t g
