-- The records of calls that recall or flush deferred entries.
use Rattle.std.proofs.Common.{◌≡◌, ◌↔◌, ℕ, ◌==◌, Bool, true, false, List, [], ◌∷◌, ◌++◌, length, drop, Some, None, refl, sym, ◌∙◌, ap, subst, append-nil, append_assoc, arith}
use Rattle.std.proofs.lemmas.Bool.Decides.{nat_tests}
use Rattle.std.specs.declared.option.Option.{Option}
use Rattle.qp_model.specs.declared.systems.System.{System}
use Rattle.qp_model.specs.declared.bodies.Entry.{Entry}
use Rattle.qp_model.specs.declared.bodies.Body.{Body}
use Rattle.qp_model.specs.declared.bodies.Body.TheVariants as item
use Rattle.qp_model.specs.Line.{same_entry}
use Rattle.qp_model.specs.Told.{Told, Known, Nothing, plain}
use Rattle.qp_model.specs.Calls as call
use Rattle.qp_model.specs.Calls.{Answer, Granted, Refused, AtFront}
use Rattle.qp_model.specs.Shapes.{Fits, Drops, MakesAgain, PostsFront, Recalls}
use Rattle.qp_model.specs.Deferral.{keep, kept_after, KeepsDeferred}
use Rattle.qp_check_calls.specs.CallState.{ToFront, CallStage, Begins, Whole}
use Rattle.qp_check_calls.specs.CallStateNext.{stage_next, begin_next, none_next, recalled_next, again, fronted, list_after}
use Rattle.qp_check_calls.proofs.ReadLemmas.{At, at-step, at-stepped, at-ended, at-whole}
use Rattle.qp_check_calls.proofs.ReleaseLemmas.{at-again, at-release}
use Rattle.qp_check_calls.proofs.FrontLemmas.{Fronted, IsFronted, HasNoFront, at-front-out, at-front-into, front-head, head-front}
use Rattle.qp_check_calls.proofs.KeptLemmas.{kept-drops, kept-again, kept-front}
use Rattle.qp_model.proofs.RecordLemmas.{told-is, same_entry-is, same_entry-refl}
use Rattle.qp_check_calls.proofs.StageLemmas.{only-passed}

-- the oldest entry leaves the list, and it must be the one that a record states
module _ (room : ℕ) (x : Entry) (xs : List Entry) (e : Entry) (rest : List Told) where
  pub kept-recalled : kept_after room (x ∷ xs) (plain (item.Recall x) ∷ rest) ≡ kept_after room xs rest
  unfolding kept_after keep
  kept-recalled = rw (same_entry-refl x) refl

  pub kept-flushed : kept_after room (x ∷ xs) (plain (item.Flush x) ∷ rest) ≡ kept_after room xs rest
  unfolding kept_after keep
  kept-flushed = rw (same_entry-refl x) refl

  pub recalled-kept : (k : List Entry) → kept_after room (x ∷ xs) (plain (item.Recall e) ∷ rest) ≡ Some k → x ≡ e
  unfolding kept_after keep
  recalled-kept k h = by (same_entry x e) refl
    where
      by : (b : Bool) → same_entry x e ≡ b → x ≡ e
      by true is = same_entry-is x e is
      by false is = let dead : kept_after room (x ∷ xs) (plain (item.Recall e) ∷ rest) ≡ None = rw is refl in absurd (cc)

  pub flushed-kept : (k : List Entry) → kept_after room (x ∷ xs) (plain (item.Flush e) ∷ rest) ≡ Some k → x ≡ e
  unfolding kept_after keep
  flushed-kept k h = by (same_entry x e) refl
    where
      by : (b : Bool) → same_entry x e ≡ b → x ≡ e
      by true is = same_entry-is x e is
      by false is = let dead : kept_after room (x ∷ xs) (plain (item.Flush e) ∷ rest) ≡ None = rw is refl in absurd (cc)

module _ (sys : System) (o : ℕ) (now : Option Entry) (a : Answer) (k : List Entry) (room : ℕ) where
  -- no entry is deferred
  recall-none : (g : List Told) → At sys o now [] (Begins room call.Recall) a k g ↔ (Recalls o a g × (kept_after room [] g ≡ Some k))
  unfolding stage_next begin_next Recalls kept_after keep
  recall-none g = (out g, λ h. into a refl h.0 h.1)
    where
      by : (t : Told) (g : List Told) (body : Body) (known : Known) → t.body ≡ body → t.known ≡ known → (next : CallStage)
          → none_next body known ≡ Some next → At sys o now (list_after [] body) next a k g → Recalls o a (t ∷ g) × (kept_after room [] (t ∷ g) ≡ Some k)
      by t g item.NoRecall Nothing is_body is_known next f more =
          let stage : Whole Refused ≡ next = cc in
          let last = (at-whole sys o now [] Refused a k g).0 (subst (λ x. At sys o now [] x a k g) (sym stage) more) in
          let whole : t ≡ plain item.NoRecall = told-is t _ _ is_body is_known in
          let end : g ≡ [] = last.0 in
          let all : t ∷ g ≡ plain item.NoRecall ∷ [] = cc in
          (subst (λ x. Recalls o x (t ∷ g)) (sym last.1) all, ap (λ x. kept_after room [] x) all ∙ ap (λ x. Some x) (sym last.2))
      by t g body known is_body is_known next f more = absurd (cc)

      out : (g : List Told) → At sys o now [] (Begins room call.Recall) a k g → Recalls o a g × (kept_after room [] g ≡ Some k)
      out [] h = absurd (cc ((at-ended sys o now [] (Begins room call.Recall) a k h).0))
      out (t ∷ g) h = let one = at-stepped sys o now [] (Begins room call.Recall) a k t g h in by t g t.body t.known refl refl one.0 one.1 one.2

      into : (b : Answer) → a ≡ b → Recalls o b g → kept_after room [] g ≡ Some k → At sys o now [] (Begins room call.Recall) a k g
      into Granted q h keeps =
          let still : kept_after room [] (plain (item.Recall h.0) ∷ (h.3 ++ h.4)) ≡ Some k = ap (λ x. kept_after room [] x) (sym h.8) ∙ keeps in absurd (cc)
      into AtFront q h keeps =
          let still : kept_after room [] (plain (item.Recall h.0) ∷ h.3) ≡ Some k = ap (λ x. kept_after room [] x) (sym h.6) ∙ keeps in absurd (cc)
      into Refused q h keeps =
          let list : Some [] ≡ Some k = ap (λ x. kept_after room [] x) (sym h) ∙ keeps in
          let same : k ≡ [] = cc in
          rw h (at-step sys o now [] _ (Whole Refused) a k _ [] refl ((at-whole sys o now [] Refused a k []).1 (refl, q, same)))
      into b q h keeps = absurd h

  -- the oldest of some
  module _ (x : Entry) (xs : List Entry) where
    recall-out : (g : List Told) → At sys o now (x ∷ xs) (Begins room call.Recall) a k g → Recalls o a g × (kept_after room (x ∷ xs) g ≡ Some k)
    unfolding stage_next begin_next Recalls kept_after
    recall-out [] h = absurd (cc ((at-ended sys o now (x ∷ xs) (Begins room call.Recall) a k h).0))
    recall-out (t ∷ g) h =
        let one = at-stepped sys o now (x ∷ xs) (Begins room call.Recall) a k t g h in by t.body t.known refl refl one.0 one.1 one.2
      where
        put : t ≡ plain (item.Recall x) → (head : List Told) (e : Entry) (rest : List Told) → MakesAgain x head e → g ≡ head ++ rest
            → Fronted o e xs (At sys o now xs (fronted (Some x)) a k) a k rest → Recalls o a (t ∷ g) × (kept_after room (x ∷ xs) (t ∷ g) ≡ Some k)
        put is head e rest m p (IsFronted one rel f q more) =
            let last = (at-release sys o now xs a k x Granted rel).0 more in
            let whole : t ∷ g ≡ plain (item.Recall x) ∷ ((head ++ one) ++ rel) = rw (is, p, q, append_assoc) refl in
            let keeps : kept_after room (x ∷ xs) (plain (item.Recall x) ∷ ((head ++ one) ++ rel)) ≡ Some xs =
            kept-recalled room x xs x ((head ++ one) ++ rel) ∙ ap (λ y. kept_after room xs y) (append_assoc head one rel) ∙ kept-again room xs x head (one ++ rel) e m
            ∙ kept-front room xs o e Granted one rel f ∙ kept-last rel last.0 in (
              subst (λ b. Recalls o b (t ∷ g)) (sym last.1) (x, e, head, head ++ one, rel, m, head-front o head e Granted one f, last.0, whole),
              ap (λ y. kept_after room (x ∷ xs) y) whole ∙ keeps ∙ ap (λ y. Some y) (sym last.2),
            )
          where
            kept-last : (rel : List Told) → Drops x rel → kept_after room xs rel ≡ Some xs
            kept-last rel d = ap (λ y. kept_after room xs y) (sym (append-nil rel)) ∙ kept-drops room xs x rel [] d
        put is head e rest m p (HasNoFront f q r) =
            let whole : t ∷ g ≡ plain (item.Recall x) ∷ (head ++ rest) = rw (is, p) refl in
            let keeps : kept_after room (x ∷ xs) (plain (item.Recall x) ∷ (head ++ rest)) ≡ Some xs =
            kept-recalled room x xs x (head ++ rest) ∙ kept-again room xs x head rest e m ∙ ap (λ y. kept_after room xs y) (sym (append-nil rest)) ∙ kept-front room xs o e AtFront rest [] f in (
              subst (λ b. Recalls o b (t ∷ g)) (sym q) (x, e, head, head ++ rest, m, head-front o head e AtFront rest f, whole),
              ap (λ y. kept_after room (x ∷ xs) y) whole ∙ keeps ∙ ap (λ y. Some y) (sym r),
            )

        by : (body : Body) (known : Known) → t.body ≡ body → t.known ≡ known → (next : CallStage)
            → recalled_next x body known ≡ Some next → At sys o now (list_after (x ∷ xs) body) next a k g
            → Recalls o a (t ∷ g) × (kept_after room (x ∷ xs) (t ∷ g) ≡ Some k)
        by (item.Recall e) Nothing is_body is_known next f more =
            let passed = only-passed (same_entry x e) _ _ f in
            let same : x ≡ e = same_entry-is x e passed.0 in
            let whole : t ≡ plain (item.Recall e) = told-is t _ _ is_body is_known in
            let made = (at-again sys o now xs a k (ToFront (Some x)) x g).0 (subst (λ s. At sys o now xs s a k g) (sym passed.1) more) in
            put (cc) made.0 made.1 made.2 made.3 made.4 (at-front-out sys o now xs a k (Some x) made.1 made.2 made.5)
        by body known is_body is_known next f more = absurd (cc)

    recall-into : (b : Answer) → a ≡ b → (g : List Told) → Recalls o b g → kept_after room (x ∷ xs) g ≡ Some k
        → At sys o now (x ∷ xs) (Begins room call.Recall) a k g
    unfolding stage_next begin_next Recalls kept_after keep
    recall-into Granted q g h keeps = put h.0 h.1 h.2 h.3 h.4 h.5 h.6 h.7 h.8
      where
        put : (d e : Entry) (head one rel : List Told) → MakesAgain d head e → PostsFront o head e Granted one → Drops d rel
            → g ≡ plain (item.Recall d) ∷ (one ++ rel) → At sys o now (x ∷ xs) (Begins room call.Recall) a k g
        put d e head one rel m f drop whole =
            let list : kept_after room (x ∷ xs) (plain (item.Recall d) ∷ (one ++ rel)) ≡ Some k = ap (λ y. kept_after room (x ∷ xs) y) (sym whole) ∙ keeps in
            same (recalled-kept room x xs d (one ++ rel) k list) list
          where
            same : x ≡ d → kept_after room (x ∷ xs) (plain (item.Recall d) ∷ (one ++ rel)) ≡ Some k → At sys o now (x ∷ xs) (Begins room call.Recall) a k g
            same is list =
                let m : MakesAgain x head e = subst (λ y. MakesAgain y head e) (sym is) m in
                let drop : Drops x rel = subst (λ y. Drops y rel) (sym is) drop in
                let parts = front-head o head e Granted one f in
                let list : kept_after room (x ∷ xs) (plain (item.Recall x) ∷ (one ++ rel)) ≡ Some k =
                subst (λ y. kept_after room (x ∷ xs) (plain (item.Recall y) ∷ (one ++ rel)) ≡ Some k) (sym is) list in
                let split : one ++ rel ≡ head ++ (parts.0 ++ rel) = ap (λ y. y ++ rel) parts.1 ∙ append_assoc head parts.0 rel in
                let last : kept_after room xs rel ≡ Some xs = ap (λ y. kept_after room xs y) (sym (append-nil rel)) ∙ kept-drops room xs x rel [] drop in
                let found : kept_after room (x ∷ xs) (plain (item.Recall x) ∷ (one ++ rel)) ≡ Some xs =
                kept-recalled room x xs x (one ++ rel) ∙ ap (λ y. kept_after room xs y) split ∙ kept-again room xs x head (parts.0 ++ rel) e m
                ∙ kept-front room xs o e Granted parts.0 rel parts.2 ∙ last in
                let kept : k ≡ xs = cc in
                let all : g ≡ plain (item.Recall x) ∷ (head ++ (parts.0 ++ rel)) =
                whole ∙ ap (λ y. plain (item.Recall y) ∷ (one ++ rel)) (sym is) ∙ ap (λ y. plain (item.Recall x) ∷ y) split in
                let more : At sys o now xs (again (ToFront (Some x)) x) a k (head ++ (parts.0 ++ rel)) =
                (at-again sys o now xs a k (ToFront (Some x)) x _).1 (
                  head,
                  e,
                  parts.0 ++ rel,
                  m,
                  refl,
                  at-front-into sys o now xs a k (Some x) e _ (IsFronted parts.0 rel parts.2 refl ((at-release sys o now xs a k x Granted rel).1 (drop, q, kept))),
                ) in
                subst (λ y. At sys o now (x ∷ xs) (Begins room call.Recall) a k y) (sym all)
                (at-step sys o now (x ∷ xs) _ (again (ToFront (Some x)) x) a k _ _ (rw (same_entry-refl x) refl) more)
    recall-into AtFront q g h keeps = put h.0 h.1 h.2 h.3 h.4 h.5 h.6
      where
        put : (d e : Entry) (head one : List Told) → MakesAgain d head e → PostsFront o head e AtFront one
            → g ≡ plain (item.Recall d) ∷ one → At sys o now (x ∷ xs) (Begins room call.Recall) a k g
        put d e head one m f whole =
            let list : kept_after room (x ∷ xs) (plain (item.Recall d) ∷ one) ≡ Some k = ap (λ y. kept_after room (x ∷ xs) y) (sym whole) ∙ keeps in
            same (recalled-kept room x xs d one k list) list
          where
            same : x ≡ d → kept_after room (x ∷ xs) (plain (item.Recall d) ∷ one) ≡ Some k → At sys o now (x ∷ xs) (Begins room call.Recall) a k g
            same is list =
                let m : MakesAgain x head e = subst (λ y. MakesAgain y head e) (sym is) m in
                let parts = front-head o head e AtFront one f in
                let list : kept_after room (x ∷ xs) (plain (item.Recall x) ∷ one) ≡ Some k =
                subst (λ y. kept_after room (x ∷ xs) (plain (item.Recall y) ∷ one) ≡ Some k) (sym is) list in
                let last : kept_after room xs parts.0 ≡ Some xs = ap (λ y. kept_after room xs y) (sym (append-nil parts.0)) ∙ kept-front room xs o e AtFront parts.0 [] parts.2 in
                let found : kept_after room (x ∷ xs) (plain (item.Recall x) ∷ one) ≡ Some xs =
                kept-recalled room x xs x one ∙ ap (λ y. kept_after room xs y) parts.1 ∙ kept-again room xs x head parts.0 e m ∙ last in
                let kept : k ≡ xs = cc in
                let all : g ≡ plain (item.Recall x) ∷ (head ++ parts.0) = whole ∙ ap (λ y. plain (item.Recall y) ∷ one) (sym is) ∙ ap (λ y. plain (item.Recall x) ∷ y) parts.1 in
                let more : At sys o now xs (again (ToFront (Some x)) x) a k (head ++ parts.0) =
                (at-again sys o now xs a k (ToFront (Some x)) x _).1
                (head, e, parts.0, m, refl, at-front-into sys o now xs a k (Some x) e _ (HasNoFront parts.2 q kept)) in
                subst (λ y. At sys o now (x ∷ xs) (Begins room call.Recall) a k y) (sym all)
                (at-step sys o now (x ∷ xs) _ (again (ToFront (Some x)) x) a k _ _ (rw (same_entry-refl x) refl) more)
    recall-into Refused q g h keeps = let still : kept_after room (x ∷ xs) (plain item.NoRecall ∷ []) ≡ Some k = ap (λ y. kept_after room (x ∷ xs) y) (sym h) ∙ keeps in
        let no : (length (x ∷ xs) == 0) ≡ false = grind (arith, nat_tests) in
        let dead : kept_after room (x ∷ xs) (plain item.NoRecall ∷ []) ≡ None = rw no refl in
        absurd (cc)
    recall-into b q g h keeps = absurd h

  pub begin-recall : (kept : List Entry) (g : List Told)
      → At sys o now kept (Begins room call.Recall) a k g ↔ (Fits sys o now call.Recall a g × KeepsDeferred room call.Recall g kept k)
  unfolding Fits KeepsDeferred
  begin-recall [] g = recall-none g
  begin-recall (x ∷ xs) g = (recall-out x xs g, λ h. recall-into x xs a refl g h.0 h.1)
