-- What is read where an entry is posted or deferred.
use Rattle.std.proofs.Common.{◌≡◌, ℕ, ◌==◌, nat_lt, true, false, ◌&&◌, List, [], ◌∷◌, ◌++◌, Some, None, is_none, refl, sym, subst, arith}
use Rattle.std.proofs.lemmas.Bool.Decides.{nat_tests}
use Rattle.std.specs.declared.option.Option.{Option}
use Rattle.std.specs.Option.{unwrap_or}
use Rattle.qp_model.specs.declared.systems.System.{System}
use Rattle.qp_model.specs.declared.bodies.Entry.{Entry}
use Rattle.qp_model.specs.declared.bodies.Body.{Body}
use Rattle.qp_model.specs.declared.bodies.Body.TheVariants as item
use Rattle.qp_model.specs.Line.{same_entry}
use Rattle.qp_model.specs.Told.{Told, Known, Nothing, plain}
use Rattle.qp_model.specs.Calls.{Answer, Granted, Refused, AtQueue}
use Rattle.qp_model.specs.Sites.{ring_of}
use Rattle.qp_model.specs.Parts.{room_before}
use Rattle.qp_model.specs.Shapes.{Posts}
use Rattle.qp_model.proofs.LineLemmas.{same_number}
use Rattle.qp_check_calls.specs.CallState.{Behind, Ends, ToQueue, CallStage, Puts, Whole}
use Rattle.qp_check_calls.specs.CallStateNext.{stage_next, put_next, queue_next, list_after, goes_on, released, only, is_of}
use Rattle.qp_check_calls.proofs.ReadLemmas.{At, at-step, at-stepped, at-ended, at-whole}
use Rattle.qp_check_calls.proofs.ReleaseLemmas.{at-release}
use Rattle.qp_model.proofs.RecordLemmas.{told-is, same_entry-is, same_entry-refl}
use Rattle.qp_check_calls.proofs.StageLemmas.{only-passed}

-- what a post behind its head leaves, where the call goes on behind it, or ends
pub data Queued (sys : System) (to : ℕ) (margin : Option ℕ) (e : Entry) (kept : List Entry) (More : List Told → Type 0) (a : Answer) (k : List Entry) (g : List Told) : Type 0 where
  IsQueued : (one rest : List Told) → Posts (ring_of sys to) to margin [] e Granted one → g ≡ one ++ rest → More rest → Queued sys to margin e kept More a k g
  IsFull : Posts (ring_of sys to) to margin [] e Refused g → a ≡ Refused → k ≡ kept → Queued sys to margin e kept More a k g
  HasNone : Posts (ring_of sys to) to margin [] e AtQueue g → a ≡ AtQueue → k ≡ kept → Queued sys to margin e kept More a k g

module _ (sys : System) (o : ℕ) (now : Option Entry) (kept : List Entry) (a : Answer) (k : List Entry) where
  pub at-queue-out : (to : ℕ) (margin : Option ℕ) (behind : Behind) (e : Entry) (g : List Told)
      → At sys o now kept (Puts (ToQueue to margin behind) e) a k g → Queued sys to margin e kept (At sys o now kept (goes_on kept behind) a k) a k g
  unfolding stage_next put_next queue_next Posts
  at-queue-out to margin behind e [] h = absurd (cc ((at-ended sys o now kept (Puts (ToQueue to margin behind) e) a k h).0))
  at-queue-out to margin behind e (t ∷ g) h =
      let one = at-stepped sys o now kept (Puts (ToQueue to margin behind) e) a k t g h in by t.body t.known refl refl one.0 one.1 one.2
    where
      full : (margin : Option ℕ) (a2 f l m n : ℕ) → t ≡ plain (item.Full a2 f l m n) → ((a2 == to) && is_of margin n) ≡ true
          → At sys o now kept (released e (Whole Refused) (Ends Refused)) a k g
          → Queued sys to margin e kept (At sys o now kept (goes_on kept behind) a k) a k (t ∷ g)
      full None a2 f l m n is test more = let no : false ≡ true = grind (arith, nat_tests) in absurd (cc)
      full (Some j) a2 f l m n is test more =
          let e1 : a2 ≡ to = grind (arith, nat_tests) in
          let e2 : j ≡ n = grind (arith, nat_tests) in
          let last = (at-release sys o now kept a k e Refused g).0 more in
          IsFull (f, l, m, g, cc, last.0) last.1 last.2

      none : (margin : Option ℕ) (a2 f l m : ℕ) → t ≡ plain (item.NoEntry a2 f l m) → ((a2 == to) && is_none margin) ≡ true
          → At sys o now kept (Whole AtQueue) a k g
          → Queued sys to margin e kept (At sys o now kept (goes_on kept behind) a k) a k (t ∷ g)
      none (Some j) a2 f l m is test more = let no : false ≡ true = grind (arith, nat_tests) in absurd (cc)
      none None a2 f l m is test more =
          let e1 : a2 ≡ to = grind (arith, nat_tests) in
          let last = (at-whole sys o now kept AtQueue a k g).0 more in
          let end : g ≡ [] = last.0 in
          HasNone (f, l, m, cc) last.1 last.2

      by : (body : Body) (known : Known) → t.body ≡ body → t.known ≡ known → (next : CallStage)
          → queue_next kept (ring_of sys to) to margin behind e body known ≡ Some next → At sys o now (list_after kept body) next a k g
          → Queued sys to margin e kept (At sys o now kept (goes_on kept behind) a k) a k (t ∷ g)
      by (item.Post a2 f l m x) Nothing is_body is_known next is more =
          let passed = only-passed ((a2 == to) && same_entry x e && nat_lt (unwrap_or margin 0) (room_before (ring_of sys to) f l m)) _ _ is in
          let test : ((a2 == to) && same_entry x e && nat_lt (unwrap_or margin 0) (room_before (ring_of sys to) f l m)) ≡ true = passed.0 in
          let e1 : a2 ≡ to = grind (arith, nat_tests) in
          let same : same_entry x e ≡ true = grind (arith, nat_tests) in
          let e2 : x ≡ e = same_entry-is x e same in
          let free : nat_lt (unwrap_or margin 0) (room_before (ring_of sys to) f l m) ≡ true = grind (arith, nat_tests) in
          let whole : t ≡ plain (item.Post a2 f l m x) = told-is t _ _ is_body is_known in
          IsQueued (plain (item.Post to f l m e) ∷ []) g (f, l, m, refl, free) (cc) (subst (λ s. At sys o now kept s a k g) (sym passed.1) more)
      by (item.Full a2 f l m n) Nothing is_body is_known next is more =
          let passed = only-passed ((a2 == to) && is_of margin n) _ _ is in
          full margin a2 f l m n (told-is t _ _ is_body is_known) passed.0 (subst (λ s. At sys o now kept s a k g) (sym passed.1) more)
      by (item.NoEntry a2 f l m) Nothing is_body is_known next is more =
          let passed = only-passed ((a2 == to) && is_none margin) _ _ is in
          none margin a2 f l m (told-is t _ _ is_body is_known) passed.0 (subst (λ s. At sys o now kept s a k g) (sym passed.1) more)
      by body known is_body is_known next is more = absurd (cc)

  pub at-queue-into : (to : ℕ) (margin : Option ℕ) (behind : Behind) (e : Entry) (g : List Told)
      → Queued sys to margin e kept (At sys o now kept (goes_on kept behind) a k) a k g → At sys o now kept (Puts (ToQueue to margin behind) e) a k g
  unfolding stage_next put_next queue_next Posts
  at-queue-into to margin behind e g (IsQueued one rest p is more) = rw (is, p.3) (at-step sys o now kept _ (goes_on kept behind) a k _ rest passed more)
    where
      passed : only ((to == to) && same_entry e e && nat_lt (unwrap_or margin 0) (room_before (ring_of sys to) p.0 p.1 p.2)) (goes_on kept behind) ≡ Some (goes_on kept behind)
      passed = let free : nat_lt (unwrap_or margin 0) (room_before (ring_of sys to) p.0 p.1 p.2) ≡ true = p.4 in rw (same_number to, same_entry-refl e, free) refl
  at-queue-into to margin behind e g (IsFull p q r) = by margin p
    where
      by : (margin : Option ℕ) → Posts (ring_of sys to) to margin [] e Refused g → At sys o now kept (Puts (ToQueue to margin behind) e) a k g
      by None p = absurd p
      by (Some j) p =
          rw p.4 (at-step sys o now kept _ (released e (Whole Refused) (Ends Refused)) a k _ p.3 (rw (same_number to, same_number j) refl)
          ((at-release sys o now kept a k e Refused p.3).1 (p.5, q, r)))
  at-queue-into to margin behind e g (HasNone p q r) = by margin p
    where
      by : (margin : Option ℕ) → Posts (ring_of sys to) to margin [] e AtQueue g → At sys o now kept (Puts (ToQueue to margin behind) e) a k g
      by (Some j) p = absurd p
      by None p =
          rw p.3 (at-step sys o now kept _ (Whole AtQueue) a k _ [] (rw (same_number to) refl) ((at-whole sys o now kept AtQueue a k []).1 (refl, q, r)))
