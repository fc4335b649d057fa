-- The records of a flush.
use Rattle.std.proofs.Common.{◌≡◌, ◌↔◌, ℕ, zero, suc, List, [], ◌∷◌, ◌++◌, length, Some, refl, sym, ◌∙◌, ap, subst}
use Rattle.std.specs.declared.option.Option.{Option}
use Rattle.qp_model.specs.declared.systems.System.{System}
use Rattle.qp_model.specs.declared.bodies.Entry.{Entry}
use Rattle.qp_model.specs.declared.bodies.Body.{Body}
use Rattle.qp_model.specs.declared.bodies.Body.TheVariants as item
use Rattle.qp_model.specs.Line.{same_entry}
use Rattle.qp_model.specs.Told.{Told, Known, Nothing, plain}
use Rattle.qp_model.specs.Calls as call
use Rattle.qp_model.specs.Calls.{Answer, Flushed}
use Rattle.qp_model.specs.Shapes.{Fits, Drops}
use Rattle.qp_model.specs.Shapes as shapes
use Rattle.qp_model.specs.Deferral.{keep, kept_after, KeepsDeferred}
use Rattle.qp_check_calls.specs.CallState.{FlushesOn, CallStage, Flushes}
use Rattle.qp_check_calls.specs.CallStateNext.{stage_next, flushed_next, flushes_on, released, list_after}
use Rattle.qp_check_calls.proofs.ReadLemmas.{At, at-step, at-stepped, at-ended, at-whole}
use Rattle.qp_check_calls.proofs.ReleaseLemmas.{at-released}
use Rattle.qp_check_calls.proofs.KeptLemmas.{kept-drops}
use Rattle.qp_check_calls.proofs.RecallLemmas.{kept-flushed, flushed-kept}
use Rattle.qp_model.proofs.RecordLemmas.{told-is, same_entry-is, same_entry-refl}
use Rattle.qp_check_calls.proofs.StageLemmas.{only-passed}

module _ (sys : System) (o : ℕ) (now : Option Entry) (a : Answer) (k : List Entry) (room total : ℕ) where
  -- the entries kept are flushed, and no others
  flush-out : (kept : List Entry) (g : List Told) → At sys o now kept (flushes_on total kept) a k g
      → shapes.Flushes (length kept) g × (kept_after room kept g ≡ Some []) × (a ≡ Flushed total) × (k ≡ [])
  unfolding stage_next shapes.Flushes kept_after
  flush-out [] g h =
      let last = (at-whole sys o now [] (Flushed total) a k g).0 h in
      let end : g ≡ [] = last.0 in
      (end, ap (λ x. kept_after room [] x) end, last.1, last.2)
  flush-out (x ∷ xs) [] h = absurd (cc ((at-ended sys o now (x ∷ xs) (Flushes total) a k h).0))
  flush-out (x ∷ xs) (t ∷ g) h =
      let one = at-stepped sys o now (x ∷ xs) (Flushes total) a k t g h in by (flush-out xs) t.body t.known refl refl one.0 one.1 one.2
    where
      by : ((g : List Told) → At sys o now xs (flushes_on total xs) a k g → shapes.Flushes (length xs) g × (kept_after room xs g ≡ Some []) × (a ≡ Flushed total) × (k ≡ []))
          → (body : Body) (known : Known) → t.body ≡ body → t.known ≡ known → (next : CallStage)
          → flushed_next total x xs body known ≡ Some next → At sys o now (list_after (x ∷ xs) body) next a k g
          → shapes.Flushes (suc (length xs)) (t ∷ g) × (kept_after room (x ∷ xs) (t ∷ g) ≡ Some []) × (a ≡ Flushed total) × (k ≡ [])
      by later (item.Flush e) Nothing is_body is_known next f more =
          let passed = only-passed (same_entry x e) _ _ f in
          let same : x ≡ e = same_entry-is x e passed.0 in
          let read : t ≡ plain (item.Flush e) = told-is t _ _ is_body is_known in
          let rel = (at-released sys o now xs a k x (FlushesOn total) g).0 (subst (λ s. At sys o now xs s a k g) (sym passed.1) more) in
          let rest = later rel.1 rel.4 in
          let split : g ≡ rel.0 ++ rel.1 = rel.3 in
          let whole : t ∷ g ≡ plain (item.Flush x) ∷ (rel.0 ++ rel.1) = cc in (
            (x, rel.0, rel.1, rel.2, rest.0, whole),
            ap (λ y. kept_after room (x ∷ xs) y) whole ∙ kept-flushed room x xs x (rel.0 ++ rel.1) ∙ kept-drops room xs x rel.0 rel.1 rel.2 ∙ rest.1,
            rest.2,
            rest.3,
          )
      by later body known is_body is_known next f more = absurd (cc)

  flush-into : (kept : List Entry) (n : ℕ) (g : List Told) → shapes.Flushes n g → kept_after room kept g ≡ Some [] → a ≡ Flushed total → k ≡ []
      → (n ≡ length kept) × At sys o now kept (flushes_on total kept) a k g
  unfolding stage_next shapes.Flushes kept_after keep
  flush-into [] zero g f keeps q r = (refl, (at-whole sys o now [] (Flushed total) a k g).1 (f, q, r))
  flush-into (x ∷ xs) zero g f keeps q r =
      let list : Some (x ∷ xs) ≡ Some [] = ap (λ y. kept_after room (x ∷ xs) y) (sym f) ∙ keeps in absurd (cc)
  flush-into [] (suc n) g f keeps q r =
      let still : kept_after room [] (plain (item.Flush f.0) ∷ (f.1 ++ f.2)) ≡ Some [] = ap (λ y. kept_after room [] y) (sym f.5) ∙ keeps in absurd (cc)
  flush-into (x ∷ xs) (suc n) g f keeps q r = put (flush-into xs n) f.0 f.1 f.2 f.3 f.4 f.5
    where
      put : ((g : List Told) → shapes.Flushes n g → kept_after room xs g ≡ Some [] → a ≡ Flushed total → k ≡ [] → (n ≡ length xs) × At sys o now xs (flushes_on total xs) a k g)
          → (d : Entry) (rel rest : List Told) → Drops d rel → shapes.Flushes n rest → g ≡ plain (item.Flush d) ∷ (rel ++ rest)
          → (suc n ≡ suc (length xs)) × At sys o now (x ∷ xs) (Flushes total) a k g
      put go d rel rest drop f whole =
          let list : kept_after room (x ∷ xs) (plain (item.Flush d) ∷ (rel ++ rest)) ≡ Some [] = ap (λ y. kept_after room (x ∷ xs) y) (sym whole) ∙ keeps in
          same (flushed-kept room x xs d (rel ++ rest) [] list) list
        where
          same : x ≡ d → kept_after room (x ∷ xs) (plain (item.Flush d) ∷ (rel ++ rest)) ≡ Some []
              → (suc n ≡ suc (length xs)) × At sys o now (x ∷ xs) (Flushes total) a k g
          same is list =
              let drop : Drops x rel = subst (λ y. Drops y rel) (sym is) drop in
              let list : kept_after room (x ∷ xs) (plain (item.Flush x) ∷ (rel ++ rest)) ≡ Some [] =
              subst (λ y. kept_after room (x ∷ xs) (plain (item.Flush y) ∷ (rel ++ rest)) ≡ Some []) (sym is) list in
              let later : kept_after room xs rest ≡ Some [] =
              sym (kept-flushed room x xs x (rel ++ rest) ∙ kept-drops room xs x rel rest drop) ∙ list in
              let more = go rest f later q r in
              let all : g ≡ plain (item.Flush x) ∷ (rel ++ rest) = whole ∙ ap (λ y. plain (item.Flush y) ∷ (rel ++ rest)) (sym is) in (
                ap (λ y. suc y) more.0,
                subst (λ y. At sys o now (x ∷ xs) (Flushes total) a k y) (sym all)
                    (at-step sys o now (x ∷ xs) _ (released x (flushes_on total xs) (FlushesOn total)) a k _ _ (rw (same_entry-refl x) refl)
                    ((at-released sys o now xs a k x (FlushesOn total) _).1 (rel, rest, drop, refl, more.1))),
              )

module _ (sys : System) (o : ℕ) (now : Option Entry) (kept : List Entry) (k : List Entry) (room : ℕ) where
  pub begin-flush : (a : Answer) (g : List Told)
      → At sys o now kept (flushes_on (length kept) kept) a k g ↔ (Fits sys o now call.Flush a g × KeepsDeferred room call.Flush g kept k)
  unfolding Fits KeepsDeferred
  begin-flush a g = (λ h. out (flush-out sys o now a k room (length kept) kept g h), λ h. into a refl h.0 h.1.0 h.1.1)
    where
      out : shapes.Flushes (length kept) g × (kept_after room kept g ≡ Some []) × (a ≡ Flushed (length kept)) × (k ≡ [])
          → Fits sys o now call.Flush a g × ((kept_after room kept g ≡ Some k) × (k ≡ []))
      out h = (subst (λ x. Fits sys o now call.Flush x g) (sym h.2) h.0, (h.1 ∙ ap (λ x. Some x) (sym h.3), h.3))

      into : (b : Answer) → a ≡ b → Fits sys o now call.Flush b g → kept_after room kept g ≡ Some k → k ≡ []
          → At sys o now kept (flushes_on (length kept) kept) a k g
      into (Flushed n) q f keeps r =
          let list : kept_after room kept g ≡ Some [] = keeps ∙ ap (λ x. Some x) r in
          let first = flush-into sys o now (Flushed n) k room n kept n g f list refl r in
          (flush-into sys o now a k room (length kept) kept n g f list (q ∙ ap (λ x. Flushed x) first.0) r).1
      into b q f keeps r = absurd f
