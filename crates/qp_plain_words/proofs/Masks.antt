-- The numbers of a range that pass a test, when one more or one less does.
use Rattle.std.proofs.Common.{◌≡◌, ◌≢◌, ℕ, zero, suc, ◌+◌, ◌<◌, ◌≤◌, ◌==◌, nat_lt, Bool, true, false, cond, ◌∷◌, length, refl, sym, ◌∙◌, ap, arith}
use Rattle.std.specs.List.{filter}
use Rattle.std.proofs.lemmas.Bool.Decides.{nat_tests}
use Rattle.qp_chart.specs.StateTree.{has}
use Rattle.qp_model.specs.Lists.{count_up, without_all, with_number, is_first}

-- the lowest number that passes is the first
pub first-passing : (p : ℕ → Bool) (n from b : ℕ) → from ≤ b → b < from + n → p b ≡ true → ((i : ℕ) → from ≤ i → i < b → p i ≡ false) → is_first b (filter p (count_up from n)) ≡ true
first-passing p zero from b low high passes least = absurd (omega (arith, low, high))
first-passing p (suc n) from b low high passes least =
    go (p from) refl (from == b) refl (λ up. first-passing p n (from + 1) b up (omega (arith, high)) passes (λ i at below. least i (omega (arith, at)) below))
  where
    go : (v : Bool) → p from ≡ v → (w : Bool) → (from == b) ≡ w → (from + 1 ≤ b → is_first b (filter p (count_up (from + 1) n)) ≡ true)
        → is_first b (cond v (from ∷ filter p (count_up (from + 1) n)) (filter p (count_up (from + 1) n))) ≡ true
    go true e true f later = f
    go true e false f later =
        let differ : from ≢ b = grind (arith, nat_tests) in
        let below : from < b = omega (arith, low, differ) in
        let none = least from (omega arith) below in
        let wrong : true ≡ false = sym e ∙ none in absurd (cc)
    go false e true f later =
        let same : from ≡ b = grind (arith, nat_tests) in
        let wrong : false ≡ true = sym e ∙ ap p same ∙ passes in absurd (cc)
    go false e false f later = let differ : from ≢ b = grind (arith, nat_tests) in later (omega (arith, low, differ))

-- tests that agree on these numbers
filter-agree : (p q : ℕ → Bool) (n from : ℕ) → ((i : ℕ) → from ≤ i → i < from + n → q i ≡ p i) → filter q (count_up from n) ≡ filter p (count_up from n)
filter-agree p q zero from agree = refl
filter-agree p q (suc n) from agree =
    rw (agree from (omega arith) (omega arith), filter-agree p q n (from + 1) (λ i at lt. agree i (omega (arith, at)) (omega (arith, lt)))) refl

-- a number is taken out
pub without-passing : (p q : ℕ → Bool) (b n from : ℕ) → q b ≡ false → ((i : ℕ) → i < from + n → (i == b) ≡ false → q i ≡ p i)
    → without_all b (filter p (count_up from n)) ≡ filter q (count_up from n)
without-passing p q b zero from out others = refl
without-passing p q b (suc n) from out others = go (p from) refl (from == b) refl (without-passing p q b n (from + 1) out (λ i lt. others i (omega (arith, lt))))
  where
    q_is : (w : Bool) → (from == b) ≡ w → q from ≡ cond w false (p from)
    q_is true f = let same : from ≡ b = grind (arith, nat_tests) in ap q same ∙ out
    q_is false f = others from (omega arith) f

    go : (v : Bool) → p from ≡ v → (w : Bool) → (from == b) ≡ w → without_all b (filter p (count_up (from + 1) n)) ≡ filter q (count_up (from + 1) n)
        → without_all b (cond v (from ∷ filter p (count_up (from + 1) n)) (filter p (count_up (from + 1) n))) ≡ cond (q from) (from ∷ filter q (count_up (from + 1) n)) (filter q (count_up (from + 1) n))
    go true e true f later = rw (q_is true f, f) later
    go true e false f later = rw (q_is false f, e, f, later) refl
    go false e true f later = rw (q_is true f) later
    go false e false f later = rw (q_is false f, e) later

-- a number below all of them comes in front
with-below : (p : ℕ → Bool) (b n from : ℕ) → b < from → with_number b (filter p (count_up from n)) ≡ b ∷ filter p (count_up from n)
with-below p b zero from lt = refl
with-below p b (suc n) from lt = go (p from) (with-below p b n (from + 1) (omega (arith, lt)))
  where
    go : (v : Bool) → with_number b (filter p (count_up (from + 1) n)) ≡ b ∷ filter p (count_up (from + 1) n)
        → with_number b (cond v (from ∷ filter p (count_up (from + 1) n)) (filter p (count_up (from + 1) n))) ≡ b ∷ cond v (from ∷ filter p (count_up (from + 1) n)) (filter p (count_up (from + 1) n))
    go true later = let less : nat_lt b from ≡ true = grind (arith, nat_tests) in rw less refl
    go false later = later

-- a number is put in
pub with-passing : (p q : ℕ → Bool) (b n from : ℕ) → from ≤ b → b < from + n → p b ≡ false → q b ≡ true → ((i : ℕ) → i < from + n → (i == b) ≡ false → q i ≡ p i)
    → with_number b (filter p (count_up from n)) ≡ filter q (count_up from n)
with-passing p q b zero from low high out in_now others = absurd (omega (arith, low, high))
with-passing p q b (suc n) from low high out in_now others =
    go (from == b) refl (p from) refl (λ up. with-passing p q b n (from + 1) up (omega (arith, high)) out in_now (λ i lt. others i (omega (arith, lt))))
  where
    above : (i : ℕ) → from ≡ b → from + 1 ≤ i → (i == b) ≡ false
    above i same at = grind (arith, nat_tests)

    go : (w : Bool) → (from == b) ≡ w → (v : Bool) → p from ≡ v → (from + 1 ≤ b → with_number b (filter p (count_up (from + 1) n)) ≡ filter q (count_up (from + 1) n))
        → with_number b (cond v (from ∷ filter p (count_up (from + 1) n)) (filter p (count_up (from + 1) n))) ≡ cond (q from) (from ∷ filter q (count_up (from + 1) n)) (filter q (count_up (from + 1) n))
    go true f true e later =
        let same : from ≡ b = grind (arith, nat_tests) in
        let wrong : true ≡ false = sym e ∙ ap p same ∙ out in absurd (cc)
    go true f false e later =
        let same : from ≡ b = grind (arith, nat_tests) in
        let passes : q from ≡ true = ap q same ∙ in_now in
        let rest = filter-agree p q n (from + 1) (λ i at lt. others i (omega (arith, lt)) (above i same at)) in
        let front = with-below p b n (from + 1) (omega (arith, same)) in
        rw (passes, rest, front, same) refl
    go false f true e later =
        let differ : from ≢ b = grind (arith, nat_tests) in
        let up : from + 1 ≤ b = omega (arith, low, differ) in
        let not_less : nat_lt b from ≡ false = grind (arith, nat_tests) in
        let other : (b == from) ≡ false = grind (arith, nat_tests) in
        rw (others from (omega arith) f, e, not_less, other, later up) refl
    go false f false e later =
        let differ : from ≢ b = grind (arith, nat_tests) in
        rw (others from (omega arith) f, e) (later (omega (arith, low, differ)))

-- one number less passes
pub length-one_less : (p q : ℕ → Bool) (b n from : ℕ) → from ≤ b → b < from + n → p b ≡ true → q b ≡ false → ((i : ℕ) → i < from + n → (i == b) ≡ false → q i ≡ p i)
    → length (filter p (count_up from n)) ≡ suc (length (filter q (count_up from n)))
length-one_less p q b zero from low high passes out others = absurd (omega (arith, low, high))
length-one_less p q b (suc n) from low high passes out others =
    go (from == b) refl (p from) refl (λ up. length-one_less p q b n (from + 1) up (omega (arith, high)) passes out (λ i lt. others i (omega (arith, lt))))
  where
    above : (i : ℕ) → from ≡ b → from + 1 ≤ i → (i == b) ≡ false
    above i same at = grind (arith, nat_tests)

    go : (w : Bool) → (from == b) ≡ w → (v : Bool) → p from ≡ v → (from + 1 ≤ b → length (filter p (count_up (from + 1) n)) ≡ suc (length (filter q (count_up (from + 1) n))))
        → length (cond v (from ∷ filter p (count_up (from + 1) n)) (filter p (count_up (from + 1) n))) ≡ suc (length (cond (q from) (from ∷ filter q (count_up (from + 1) n)) (filter q (count_up (from + 1) n))))
    go true f true e later =
        let same : from ≡ b = grind (arith, nat_tests) in
        let fails : q from ≡ false = ap q same ∙ out in
        let rest = filter-agree p q n (from + 1) (λ i at lt. others i (omega (arith, lt)) (above i same at)) in
        rw (fails, rest) refl
    go true f false e later =
        let same : from ≡ b = grind (arith, nat_tests) in
        let wrong : false ≡ true = sym e ∙ ap p same ∙ passes in absurd (cc)
    go false f true e later =
        let differ : from ≢ b = grind (arith, nat_tests) in
        let up : from + 1 ≤ b = omega (arith, low, differ) in
        rw (others from (omega arith) f, e) (ap suc (later up))
    go false f false e later =
        let differ : from ≢ b = grind (arith, nat_tests) in
        let up : from + 1 ≤ b = omega (arith, low, differ) in
        rw (others from (omega arith) f, e) (later up)

-- the numbers below k pass
pub filter-below : (p : ℕ → Bool) (k n from : ℕ) → k ≤ n → ((i : ℕ) → i < from + k → from ≤ i → p i ≡ true) → ((i : ℕ) → from + k ≤ i → i < from + n → p i ≡ false)
    → filter p (count_up from n) ≡ count_up from k
filter-below p zero zero from le in_them above = refl
filter-below p zero (suc n) from le in_them above =
    rw (above from (omega arith) (omega arith)) (filter-below p zero n (from + 1) (omega arith) (λ i lt at. absurd (omega (arith, lt, at))) (λ i at lt. above i (omega (arith, at)) (omega (arith, lt))))
filter-below p (suc k) zero from le in_them above = absurd (omega (arith, le))
filter-below p (suc k) (suc n) from le in_them above =
    rw (in_them from (omega arith) (omega arith))
    (ap (λ xs. from ∷ xs) (filter-below p k n (from + 1) (omega (arith, le)) (λ i lt at. in_them i (omega (arith, lt)) (omega (arith, at))) (λ i at lt. above i (omega (arith, at)) (omega (arith, lt)))))

-- a number passes where it stands among them
pub has-passing : (p : ℕ → Bool) (n from b : ℕ) → from ≤ b → b < from + n → p b ≡ true → has (filter p (count_up from n)) b ≡ true
has-passing p zero from b low high passes = absurd (omega (arith, low, high))
has-passing p (suc n) from b low high passes = go (from == b) refl (p from) refl (λ up. has-passing p n (from + 1) b up (omega (arith, high)) passes)
  where
    go : (w : Bool) → (from == b) ≡ w → (v : Bool) → p from ≡ v → (from + 1 ≤ b → has (filter p (count_up (from + 1) n)) b ≡ true)
        → has (cond v (from ∷ filter p (count_up (from + 1) n)) (filter p (count_up (from + 1) n))) b ≡ true
    go true f true e later = rw f refl
    go true f false e later =
        let same : from ≡ b = grind (arith, nat_tests) in
        let wrong : false ≡ true = sym e ∙ ap p same ∙ passes in absurd (cc)
    go false f true e later =
        let differ : from ≢ b = grind (arith, nat_tests) in
        rw (f, later (omega (arith, low, differ))) refl
    go false f false e later =
        let differ : from ≢ b = grind (arith, nat_tests) in
        later (omega (arith, low, differ))
