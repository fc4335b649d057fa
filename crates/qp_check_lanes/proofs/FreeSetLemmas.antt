-- Free blocks as an ordered set.
use Rattle.std.proofs.Common.{◌≡◌, ◌∙◌, ℕ, zero, suc, ◌+◌, ◌<◌, ◌==◌, nat_lt, Bool, true, false, List, [], ◌∷◌, ap, sym, refl, arith}
use Rattle.std.proofs.lemmas.Bool.Decides.{nat_tests}
use Rattle.std.proofs.lemmas.Cmp.{ranked}
use Rattle.std.specs.declared.cmp.Ordering.TheVariants.{Less}
use Rattle.std.specs.Ordering.{is_eq, nat_cmp}
use Rattle.std.specs.List.{AllByRecursion, list_any}
use Rattle.std.specs.List.Sorted.{IsStrictlySortedBy}
use Rattle.std.specs.BTreeMap.{is_at}
use Rattle.std.specs.BTreeSet.{insert_key}
use Rattle.std.specs.Set.{remove_key}
use Rattle.qp_chart.specs.StateTree.{has}
use Rattle.qp_model.specs.Lists.{count_up, with_number, without_all}

pub with-inserted : (n : ℕ) (xs : List ℕ) → insert_key nat_cmp xs n ≡ with_number n xs
with-inserted n [] = refl
with-inserted n (x ∷ xs) = go (with-inserted n xs) (nat_lt n x) refl (n == x) refl
  where
    go : insert_key nat_cmp xs n ≡ with_number n xs → (b : Bool) → nat_lt n x ≡ b → (s : Bool) → (n == x) ≡ s → insert_key nat_cmp (x ∷ xs) n ≡ with_number n (x ∷ xs)
    go later true e s f = rw e refl
    go later false e true f = rw (e, f) refl
    go later false e false f = rw (e, f) (ap (λ ys. x ∷ ys) later)

at-same : (n x : ℕ) → is_at (nat_cmp n) x ≡ (x == n)
at-same n x = go (nat_lt n x) refl (n == x) refl
  where
    go : (b : Bool) → nat_lt n x ≡ b → (s : Bool) → (n == x) ≡ s → is_eq (nat_cmp n x) ≡ (x == n)
    go true e s f = let other : (x == n) ≡ false = grind (arith, nat_tests) in rw (e, other) refl
    go false e true f = let same : (x == n) ≡ true = grind (arith, nat_tests) in rw (e, f, same) refl
    go false e false f = let other : (x == n) ≡ false = grind (arith, nat_tests) in rw (e, f, other) refl

-- numbers above one don't have it
above-without : (n : ℕ) (xs : List ℕ) → AllByRecursion (λ y. nat_cmp n y ≡ Less) xs → without_all n xs ≡ xs
above-without n [] all = refl
above-without n (y ∷ ys) all =
    let above : n < y = ranked n y Less (sym all.0) in
    let other : (y == n) ≡ false = grind (arith, nat_tests) in
    rw other (ap (λ zs. y ∷ zs) (above-without n ys all.1))

pub without-removed : (n : ℕ) (xs : List ℕ) → IsStrictlySortedBy nat_cmp xs → remove_key (is_at (nat_cmp n)) xs ≡ without_all n xs
unfolding IsStrictlySortedBy
without-removed n [] sorted = refl
without-removed n (x ∷ xs) sorted = go (without-removed n xs sorted.1) (x == n) refl
  where
    go : remove_key (is_at (nat_cmp n)) xs ≡ without_all n xs → (b : Bool) → (x == n) ≡ b → remove_key (is_at (nat_cmp n)) (x ∷ xs) ≡ without_all n (x ∷ xs)
    go later true e =
        let same : x ≡ n = grind (arith, nat_tests) in
        let here : is_at (nat_cmp n) x ≡ true = at-same n x ∙ e in
        rw (here, e) (sym (ap (λ k. without_all k xs) (sym same) ∙ above-without x xs sorted.0))
    go later false e = let here : is_at (nat_cmp n) x ≡ false = at-same n x ∙ e in rw (here, e) (ap (λ ys. x ∷ ys) later)

pub has-contained : (n : ℕ) (xs : List ℕ) → list_any (is_at (nat_cmp n)) xs ≡ has xs n
has-contained n [] = refl
has-contained n (x ∷ xs) = rw (at-same n x, has-contained n xs) refl

-- numbers put in from the least on
pub count-inserted : (k n m : ℕ) → m ≡ k + n → insert_key nat_cmp (count_up k n) m ≡ count_up k (n + 1)
count-inserted k zero m e = let same : m ≡ k = omega arith in ap (λ j. j ∷ []) same
count-inserted k (suc n) m e =
    let next : suc n + 1 ≡ suc (n + 1) = omega arith in
    let later : nat_lt m k ≡ false = grind (arith, nat_tests) in
    let other : (m == k) ≡ false = grind (arith, nat_tests) in
    rw (later, other, next) (ap (λ ys. k ∷ ys) (count-inserted (k + 1) n m (omega arith)))
