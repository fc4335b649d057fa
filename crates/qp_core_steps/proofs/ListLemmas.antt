-- Lists without an item, and what tests of lists count.
use Rattle.std.proofs.Common.{◌≡◌, ℕ, zero, suc, ◌+◌, ◌<◌, ◌≤◌, nat_lt, List, [], ◌∷◌, ◌++◌, Bool, true, false, not, cond, ◌||◌, length, take, drop, refl, sym, ap, subst, ◌∙◌, arith, Some, None}
use Rattle.std.proofs.lemmas.Bool.Decides.{nat_tests}
use Rattle.std.specs.List.{list_any, position, position_or_len}
use Rattle.qp_table.specs.Counting.{many, without}
use Rattle.qp_core_steps.specs.Lists.{removed}

module _ {A : Type 0} where
  first-cons : (t : A → Bool) (n : ℕ) (b : Bool) (x : A) (xs : List A) → take n xs ++ drop (suc n) xs ≡ without t xs
      → let m = cond (not b) (1 + n) 0 in take m (x ∷ xs) ++ drop (suc m) (x ∷ xs) ≡ cond b xs (x ∷ without t xs)
  first-cons t n true x xs h = refl
  first-cons t n false x xs h = let e : 1 + n ≡ suc n = omega arith in subst (λ m. take m (x ∷ xs) ++ drop (suc m) (x ∷ xs) ≡ x ∷ without t xs) (sym e) (ap (λ ys. x ∷ ys) h)

  first-out : (t : A → Bool) (xs : List A) → take (position_or_len t xs) xs ++ drop (suc (position_or_len t xs)) xs ≡ without t xs
  first-out t [] = refl
  first-out t (x ∷ xs) = first-cons t (position_or_len t xs) (t x) x xs (first-out t xs)

  past : (n : ℕ) (xs : List A) → length xs ≤ n → take n xs ++ drop (suc n) xs ≡ xs
  past n [] le = none-left n
    where
      none-left : (n : ℕ) → take n [] ++ drop {A = A} (suc n) [] ≡ []
      none-left zero = refl
      none-left (suc n) = refl
  past zero (x ∷ xs) le = absurd (omega arith)
  past (suc n) (x ∷ xs) le = ap (λ ys. x ∷ ys) (past n xs (omega arith))

  pub without_position : (t : A → Bool) (xs : List A) → removed xs (position t xs) ≡ without t xs
  without_position t xs = go (nat_lt (position_or_len t xs) (length xs)) refl
    where
      go : (b : Bool) → nat_lt (position_or_len t xs) (length xs) ≡ b → removed xs (cond b (Some (position_or_len t xs)) None) ≡ without t xs
      go true e = first-out t xs
      go false e = sym (past (position_or_len t xs) xs (grind (arith, nat_tests))) ∙ first-out t xs

  any-cons : (t : A → Bool) (xs : List A) (b : Bool) → (list_any t xs ≡ true → 0 < many t xs) → (b || list_any t xs) ≡ true → 0 < cond b 1 0 + many t xs
  any-cons t xs true r h = omega arith
  any-cons t xs false r h = let z = r h in omega arith

  -- what a test finds, it counts
  pub any-many : (t : A → Bool) (xs : List A) → list_any t xs ≡ true → 0 < many t xs
  any-many t [] e = cc
  any-many t (x ∷ xs) e = any-cons t xs (t x) (any-many t xs) e

  none-cons : (t : A → Bool) (xs : List A) (b : Bool) → (list_any t xs ≡ false → many t xs ≡ 0) → (b || list_any t xs) ≡ false → cond {A = ℕ} b 1 0 + many t xs ≡ 0
  none-cons t xs true r h = cc
  none-cons t xs false r h = let z = r h in omega arith

  pub none-many : (t : A → Bool) (xs : List A) → list_any t xs ≡ false → many t xs ≡ 0
  none-many t [] e = refl
  none-many t (x ∷ xs) e = none-cons t xs (t x) (none-many t xs) e
