-- The first source that may act.
use Rattle.std.proofs.Common.{◌≡◌, ◌∙◌, ℕ, suc, zero, ◌+◌, ◌<◌, ◌≤◌, min, Bool, true, false, cond, List, [], ◌∷◌, length, take, drop, get_or, Some, None, ap, sym, refl, arith, ◌-◌, length-drop, inl, inr}
use Rattle.std.specs.declared.option.Option.{Option}
use Rattle.std.specs.List.{find}
use Rattle.std.specs.Option.{option_map, option_or}
use Rattle.std.proofs.lemmas.List.{drop_more, at_drop_all, drop_all, take_all}
use Rattle.std.proofs.lemmas.Bool.{cases_lt}
use Rattle.std.proofs.lemmas.List.Folds.{find-append}
use Rattle.qp_model.specs.declared.stimulus.Stim.{Stim}
use Rattle.qp_model.specs.OneOrder.{may_act, turned}
use Rattle.qp_check_kernel.specs.Turns.{left_from, first_acting}

module _ (rests : Bool) (b : ℕ → ℕ) (k : ℕ) (sources : List (List Stim)) (i : ℕ) where
  module _ (source : List Stim) (inside : i < length sources) (is : source ≡ get_or sources i source) where
    first-one : first_acting rests (left_from (k + i) b (drop i sources))
        ≡ option_map (λ (x : ℕ × List Stim). x.0) (cond (may_act rests (drop (b (k + i)) source)) (Some (k + i, drop (b (k + i)) source)) (find (λ x. may_act rests x.1) (left_from (k + i + 1) b (drop (i + 1) sources))))
    unfolding left_from
    first-one =
        ap (λ l. first_acting rests (left_from (k + i) b l)) (drop_more sources i source inside)
        ∙ ap (λ s. option_map (λ (x : ℕ × List Stim). x.0) (cond (may_act rests (drop (b (k + i)) s)) (Some (k + i, drop (b (k + i)) s)) (find (λ x. may_act rests x.1) (left_from (k + i + 1) b (drop (i + 1) sources))))) (sym is)

    pub first-acts : may_act rests (drop (b (k + i)) source) ≡ true → first_acting rests (left_from (k + i) b (drop i sources)) ≡ Some (k + i)
    first-acts h = first-one ∙ rw h refl

    pub first-passes : may_act rests (drop (b (k + i)) source) ≡ false
        → first_acting rests (left_from (k + i) b (drop i sources)) ≡ first_acting rests (left_from (k + (i + 1)) b (drop (i + 1) sources))
    first-passes h =
        let there : k + i + 1 ≡ k + (i + 1) = omega arith in
        first-one ∙ rw h (ap (λ n. first_acting rests (left_from n b (drop (i + 1) sources))) there)

  pub first-none : length sources ≤ i → first_acting rests (left_from (k + i) b (drop i sources)) ≡ None
  unfolding left_from
  first-none h = at_drop_all (λ l. first_acting rests (left_from (k + i) b l)) sources i h

left_from-drop : (b : ℕ → ℕ) (n k : ℕ) (sources : List (List Stim)) → drop n (left_from k b sources) ≡ left_from (k + n) b (drop n sources)
unfolding left_from
left_from-drop b zero k sources = let e : k ≡ k + 0 = omega arith in ap (λ m. left_from m b sources) e
left_from-drop b (suc n) k [] = refl
left_from-drop b (suc n) k (s ∷ ss) = let e : k + 1 + n ≡ k + suc n = omega arith in left_from-drop b n (k + 1) ss ∙ ap (λ m. left_from m b (drop n ss)) e

left_from-take : (b : ℕ → ℕ) (n k : ℕ) (sources : List (List Stim)) → take n (left_from k b sources) ≡ left_from k b (take n sources)
unfolding left_from
left_from-take b zero k sources = refl
left_from-take b (suc n) k [] = refl
left_from-take b (suc n) k (s ∷ ss) = ap (λ l. (k, drop (b k) s) ∷ l) (left_from-take b n (k + 1) ss)

option_map-or : {A B : Type 0} (f : A → B) (x y : Option A) → option_map f (option_or x y) ≡ option_or (option_map f x) (option_map f y)
option_map-or f None y = refl
option_map-or f (Some a) y = refl

-- in cyclic order: first those behind, then those before
pub first-turned : (rests : Bool) (b : ℕ → ℕ) (n : ℕ) (sources : List (List Stim)) → first_acting rests (turned n (left_from 1 b sources))
    ≡ option_or (first_acting rests (left_from (1 + n) b (drop n sources))) (first_acting rests (left_from 1 b (take n sources)))
first-turned rests b n sources =
    ap (option_map (λ x. x.0)) (find-append (λ x. may_act rests x.1) (drop n (left_from 1 b sources)) (take n (left_from 1 b sources)))
    ∙ option_map-or (λ x. x.0) (find (λ x. may_act rests x.1) (drop n (left_from 1 b sources))) (find (λ x. may_act rests x.1) (take n (left_from 1 b sources)))
    ∙ rw (left_from-drop b n 1 sources, left_from-take b n 1 sources) refl

-- a number beyond the sources is as good as their count
module _ (rests : Bool) (b : ℕ → ℕ) (n m : ℕ) (sources : List (List Stim)) (is : m ≡ min n (length sources)) where
  pub first-clamped : first_acting rests (turned n (left_from 1 b sources))
      ≡ option_or (first_acting rests (left_from (m + 1) b (drop m sources))) (first_acting rests (left_from 1 b (take m sources)))
  unfolding left_from
  first-clamped = elim (cases_lt (length sources) n) [
    | inl beyond ↦
        let past : length sources ≤ n = omega arith in
        let whole : length sources ≤ m = omega arith in
        first-turned rests b n sources ∙ rw (drop_all n sources past, drop_all m sources whole, take_all n sources past, take_all m sources whole) refl
    | inr within ↦
        let same : n ≡ m = omega arith in
        let next : 1 + m ≡ m + 1 = omega arith in
        first-turned rests b n sources ∙ rw (same, next) refl
  ]

  behind : take (length sources - m) (drop m sources) ≡ drop m sources
  behind = take_all (length sources - m) (drop m sources) (simp length-drop (omega arith))

  pub acting-behind : (x : ℕ) → Some x ≡ first_acting rests (left_from (m + 1) b (take (length sources - m) (drop m sources)))
      → Some x ≡ first_acting rests (turned n (left_from 1 b sources))
  acting-behind x h =
      let first : first_acting rests (left_from (m + 1) b (drop m sources)) ≡ Some x = ap (λ l. first_acting rests (left_from (m + 1) b l)) (sym behind) ∙ sym h in
      sym (first-clamped ∙ ap (λ o. option_or o (first_acting rests (left_from 1 b (take m sources)))) first)

  pub acting-before : (x : Option ℕ) → None ≡ first_acting rests (left_from (m + 1) b (take (length sources - m) (drop m sources)))
      → x ≡ first_acting rests (left_from 1 b (take m sources)) → x ≡ first_acting rests (turned n (left_from 1 b sources))
  acting-before x h g =
      let none : first_acting rests (left_from (m + 1) b (drop m sources)) ≡ None = ap (λ l. first_acting rests (left_from (m + 1) b l)) (sym behind) ∙ sym h in
      g ∙ sym (first-clamped ∙ ap (λ o. option_or o (first_acting rests (left_from 1 b (take m sources)))) none)
