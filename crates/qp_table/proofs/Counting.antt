-- Sums over lists with one element changed, added or taken out.
use Rattle.std.proofs.Common.{◌≡◌, ℕ, zero, suc, ◌+◌, ◌<◌, ◌≤◌, ◌≢◌, List, [], ◌∷◌, ◌++◌, Bool, true, false, cond, length, set, refl, sym, ap, arith}
use mathlib.Core.Option.{some, some-injective, some-ne-none}
use lib.ListN.{get_elem?}
use Rattle.qp_table.specs.Counting.{Each, sum_over, many, without}

pub cond-le : (b : Bool) → cond b 1 0 ≤ 1
cond-le true = omega arith
cond-le false = omega arith

module _ {A : Type 0} where
  pub each-snoc : (P : A → Type 0) (xs : List A) (x : A) → Each P xs → P x → Each P (xs ++ x ∷ [])
  each-snoc P [] x e p = (p, tt)
  each-snoc P (y ∷ ys) x e p = (e.0, each-snoc P ys x e.1 p)

  pub each-map : (P Q : A → Type 0) → ((x : A) → P x → Q x) → (xs : List A) → Each P xs → Each Q xs
  each-map P Q f [] e = tt
  each-map P Q f (y ∷ ys) e = (f y e.0, each-map P Q f ys e.1)

  -- the sum after a change of one
  pub total-set : (f : A → ℕ) (xs : List A) (i : ℕ) (v w : A) → get_elem? xs i ≡ some v → sum_over f (set xs i w) + f v ≡ sum_over f xs + f w
  total-set f [] i v w e = absurd (some-ne-none v (sym e))
  total-set f (x ∷ xs) zero v w e = let s : f x ≡ f v = ap f (some-injective x v e) in omega arith
  total-set f (x ∷ xs) (suc i) v w e = let s = total-set f xs i v w e in omega arith

  pub total-at : (f : A → ℕ) (xs : List A) (i : ℕ) (v : A) → get_elem? xs i ≡ some v → f v ≤ sum_over f xs
  total-at f [] i v e = absurd (some-ne-none v (sym e))
  total-at f (x ∷ xs) zero v e = let s : f x ≡ f v = ap f (some-injective x v e) in omega arith
  total-at f (x ∷ xs) (suc i) v e = let s = total-at f xs i v e in omega arith

  total-none : (f : A → ℕ) (xs : List A) → ((j : ℕ) (y : A) → get_elem? xs j ≡ some y → f y ≡ 0) → sum_over f xs ≡ 0
  total-none f [] h = refl
  total-none f (x ∷ xs) h = let a = h 0 x refl in let b = total-none f xs (λ j y e. h (suc j) y e) in omega arith

  -- a sum to which one alone adds
  pub alone-total : (f : A → ℕ) (xs : List A) (i : ℕ) (x : A) → get_elem? xs i ≡ some x → ((j : ℕ) (y : A) → j ≢ i → get_elem? xs j ≡ some y → f y ≡ 0) → sum_over f xs ≡ f x
  alone-total f [] i x e h = absurd (some-ne-none x (sym e))
  alone-total f (y ∷ xs) zero x e h = let a = ap f (some-injective y x e) in let z = total-none f xs (λ j z q. h (suc j) z (λ w. omega arith) q) in omega arith
  alone-total f (y ∷ xs) (suc i) x e h = let a = h 0 y (λ w. omega arith) refl in let r = alone-total f xs i x e (λ j z n q. h (suc j) z (λ w. n (omega arith)) q) in omega arith

  pub total-le : (f g : A → ℕ) (xs : List A) → ((i : ℕ) (v : A) → get_elem? xs i ≡ some v → f v ≤ g v) → sum_over f xs ≤ sum_over g xs
  total-le f g [] h = omega arith
  total-le f g (x ∷ xs) h = let a = h 0 x refl in let b = total-le f g xs (λ i v e. h (suc i) v e) in omega arith

  pub total-snoc : (f : A → ℕ) (xs : List A) (x : A) → sum_over f (xs ++ x ∷ []) ≡ sum_over f xs + f x
  total-snoc f [] x = omega arith
  total-snoc f (y ∷ ys) x = let s = total-snoc f ys x in omega arith

  pub total-append : (f : A → ℕ) (xs ys : List A) → sum_over f (xs ++ ys) ≡ sum_over f xs + sum_over f ys
  total-append f [] ys = omega arith
  total-append f (x ∷ xs) ys = let s = total-append f xs ys in omega arith

  pub many-snoc : (p : A → Bool) (xs : List A) (x : A) → many p (xs ++ x ∷ []) ≡ many p xs + cond (p x) 1 0
  many-snoc p xs x = total-snoc (λ y. cond (p y) 1 0) xs x

  pub many-le : (p : A → Bool) (xs : List A) → many p xs ≤ length xs
  many-le p [] = omega arith
  many-le p (x ∷ xs) = let a = cond-le (p x) in let b = many-le p xs in omega arith

  -- one that passes p is taken out: of those that pass q there is one less where it passed q
  without-one : (p q : A → Bool) (b : Bool) → ((x : A) → p x ≡ true → q x ≡ b) → (x : A) (xs : List A) → (0 < many p xs → many q (without p xs) + cond b 1 0 ≡ many q xs) → (t : Bool) → p x ≡ t → 0 < cond t 1 0 + many p xs
      → many q (cond t xs (x ∷ without p xs)) + cond b 1 0 ≡ cond (q x) 1 0 + many q xs
  without-one p q b same x xs rest true e h = let s : cond {A = ℕ} (q x) 1 0 ≡ cond b 1 0 = ap (λ (t : Bool). cond {A = ℕ} t 1 0) (same x e) in omega arith
  without-one p q b same x xs rest false e h = let s = rest (omega arith) in omega arith

  pub many-without : (p q : A → Bool) (b : Bool) → ((x : A) → p x ≡ true → q x ≡ b) → (xs : List A) → 0 < many p xs → many q (without p xs) + cond b 1 0 ≡ many q xs
  many-without p q b same [] h = absurd (omega arith)
  many-without p q b same (x ∷ xs) h = without-one p q b same x xs (many-without p q b same xs) (p x) refl h

  pub get-last : (xs : List A) (x : A) → get_elem? (xs ++ x ∷ []) (length xs) ≡ some x
  get-last [] x = refl
  get-last (y ∷ ys) x = get-last ys x

  pub get-longer : (xs ys : List A) (i : ℕ) (x : A) → get_elem? xs i ≡ some x → get_elem? (xs ++ ys) i ≡ some x
  get-longer [] ys i x e = absurd (some-ne-none x (sym e))
  get-longer (y ∷ xs) ys zero x e = e
  get-longer (y ∷ xs) ys (suc i) x e = get-longer xs ys i x e
