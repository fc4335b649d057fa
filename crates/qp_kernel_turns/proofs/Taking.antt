-- An entry that was just seen is there to be taken.
use Rattle.std.proofs.Common.{◌≡◌, ℕ, ◌+◌, ◌<◌, ◌≤◌, ◌==◌, Bool, true, false, [], ◌∷◌, refl, sym, ◌∙◌, ap, subst, arith, IsTrue}
use Rattle.std.specs.Bool.{MatchBool}
use Rattle.std.proofs.lemmas.Bool.Decides.{nat_tests}
use Rattle.qp_model.specs.declared.bodies.Body.TheVariants as body
use Rattle.qp_model.specs.declared.words.Word.TheVariants as word
use Rattle.qp_model.specs.Told.{for_object, plain}
use Rattle.qp_calls.specs.declared.answers.Counts.{Counts}
use Rattle.qp_calls.specs.Clauses.{Sees, TakesNone, last_nil, same_counts}
use Rattle.qp_calls.specs.LaneView as shown
use Rattle.qp_calls.specs.LaneView.{AddsOf, LaneView, Looks, NotShown, Own, mark_after, mark_by, own_after}
use Rattle.qp_kernel.specs.Turning.{seen_told}
use Rattle.qp_kernel_turns.specs.Halting.{asked_once}

-- after a look at a queue, and after a `nil`, its mark is the sum of what they show
pub seen-mark_own : (p n f l m : ℕ) → mark_after (word.Queue p) n (seen_told p f l m ∷ []) ≡ f + l + m
unfolding mark_after mark_by
seen-mark_own p n f l m = let self : (p == p) ≡ true = grind (arith, nat_tests) in rw self refl

pub nil-mark_own : (p n f l m : ℕ) → mark_after (word.Queue p) n (for_object p (plain (body.Nil f l m)) ∷ []) ≡ f + l + m
unfolding mark_after mark_by
nil-mark_own p n f l m = let self : (p == p) ≡ true = grind (arith, nat_tests) in rw self refl

nil-own : (p f l m : ℕ) (o : Own) → own_after p o (for_object p (plain (body.Nil f l m)) ∷ []) ≡ o
unfolding own_after
nil-own p f l m o = refl

-- what a queue that was found empty says of the lane
record Found (p f l m : ℕ) (v w : LaneView) : Type 0 where
  own : w.own p ≡ v.own p
  serves : w.serves p ≡ v.serves p
  rise : v.mark (word.Queue p) ≤ w.mark (word.Queue p)
  mark : w.mark (word.Queue p) ≡ f + l + m

pub seen-is-there : (p f l m : ℕ) (c : Counts) (v1 v2 v3 v4 : LaneView) → Sees p v1 v2 c → c.m < c.f + c.l → IsTrue (v2.serves p) → v3 ≡ asked_once v2 → TakesNone p f l m v3 v4 → ⊥
seen-is-there p f l m c v1 v2 v3 v4 sees some served still takes =
    let none : TakesNone p f l m (asked_once v2) v4 = subst (λ u. TakesNone p f l m u v4) still takes in
    let found = by (same_counts (last_nil p NotShown v2.told) f l m) none.adds in
    let seen : v2.mark (word.Queue p) ≡ c.f + c.l + c.m = sees.0.grows.mark (word.Queue p) ∙ seen-mark_own p (v1.mark (word.Queue p)) c.f c.l c.m in
    let own = sees.1.own served in
    let later = none.shows.own (found.serves ∙ served) in
    let l-is : l ≡ c.l = later.0 ∙ ap (λ o. o.l) found.own ∙ sym own.0 in
    let m-is : m ≡ c.m = later.1 ∙ ap (λ o. o.m) found.own ∙ sym own.1 in
    let up = found.rise in
    let here = found.mark in
    let empty = none.empty in
    absurd (omega (arith, some, seen, l-is, m-is, up, here, empty))
  where
    by : (b : Bool) → MatchBool b (Looks (word.Queue p) (f + l + m) (shown.Counts f l m) (asked_once v2) v4) (AddsOf p (plain (body.Nil f l m) ∷ []) (asked_once v2) v4) → Found p f l m v2 v4
    by true h = record { own = h.own p; serves = h.serves p; rise = subst (λ n. v2.mark (word.Queue p) ≤ n) (sym h.here) h.rise; mark = h.here }
    by false h = record {
      own = h.grows.own p ∙ nil-own p f l m (v2.own p);
      serves = h.grows.serves p;
      rise = h.grows.rise (word.Queue p);
      mark = h.grows.mark (word.Queue p) ∙ nil-mark_own p (v2.mark (word.Queue p)) f l m;
    }
