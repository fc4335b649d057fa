-- Ascending lists with the same members are one.
use Rattle.std.proofs.Common.{◌≡◌, ℕ, zero, suc, ◌<◌, ◌⊎◌, inl, inr, List, [], ◌∷◌, refl, sym, subst, arith}
use Rattle.std.specs.List.{AllByRecursion, Contains}
use Rattle.std.proofs.lemmas.List.Elements.{All-from_recursion}

module _ {A : Type 0} (key : A → ℕ) where
  -- each key is below those after it
  abbrev pub Rising : List A → Type 0
  Rising [] = Unit {0}
  Rising (x ∷ xs) = AllByRecursion (λ y. key x < key y) xs × Rising xs

  front : (x : A) (xs : List A) → Contains (x ∷ xs) x
  front x xs = (0, omega arith, refl)

  further : (x z : A) (xs : List A) → Contains xs z → Contains (x ∷ xs) z
  further x z xs (k, inside, is) = (suc k, omega (arith, inside), is)

  head-or-tail : (x z : A) (xs : List A) → Contains (x ∷ xs) z → (x ≡ z) ⊎ Contains xs z
  head-or-tail x z xs (zero, inside, is) = inl is
  head-or-tail x z xs (suc k, inside, is) = inr (k, omega (arith, inside), is)

  -- what stands after is above
  after : (n : ℕ) (z : A) (xs : List A) → AllByRecursion (λ y. n < key y) xs → Contains xs z → n < key z
  after n z xs all (k, inside, is) = subst (λ y. n < key y) is (All-from_recursion (λ y. n < key y) xs all k z inside)

  heads-same : (x y : A) (xs ys : List A) → Rising (x ∷ xs) → Rising (y ∷ ys) → (y ≡ x) ⊎ Contains ys x → (x ≡ y) ⊎ Contains xs y → x ≡ y
  heads-same x y xs ys rx ry (inl e) b = sym e
  heads-same x y xs ys rx ry (inr c) (inl e) = e
  heads-same x y xs ys rx ry (inr c) (inr d) =
      let low = after (key y) x ys ry.0 c in
      let high = after (key x) y xs rx.0 d in
      absurd (omega (arith, low, high))

  -- what stands after the head of one stands after that of the other
  tail-in : (x y z : A) (xs ys : List A) → x ≡ y → Rising (x ∷ xs) → Contains xs z → (y ≡ z) ⊎ Contains ys z → Contains ys z
  tail-in x y z xs ys same rx c (inr d) = d
  tail-in x y z xs ys same rx c (inl e) =
      let high = after (key x) z xs rx.0 c in
      let low : key z < key z = subst (λ w. key w < key z) e (subst (λ w. key w < key z) same high) in
      absurd (omega (arith, low))

  pub rising-one : (xs ys : List A) → Rising xs → Rising ys → ((z : A) → Contains xs z → Contains ys z) → ((z : A) → Contains ys z → Contains xs z) → xs ≡ ys
  rising-one [] [] rx ry there back = refl
  rising-one [] (y ∷ ys) rx ry there back = let none = back y (front y ys) in absurd (omega (arith, none.1))
  rising-one (x ∷ xs) [] rx ry there back = let none = there x (front x xs) in absurd (omega (arith, none.1))
  rising-one (x ∷ xs) (y ∷ ys) rx ry there back =
      let same : x ≡ y = heads-same x y xs ys rx ry (head-or-tail y x ys (there x (front x xs))) (head-or-tail x y xs (back y (front y ys))) in
      let rest : xs ≡ ys =
      rising-one xs ys rx.1 ry.1 (λ z c. tail-in x y z xs ys same rx c (head-or-tail y z ys (there z (further x z xs c))))
      (λ z c. tail-in y x z ys xs (sym same) ry c (head-or-tail x z xs (back z (further y z ys c)))) in
      rw (same, rest) refl
