-- The free blocks of a pool ascend; one goes or comes.
use Rattle.std.proofs.Common.{◌≡◌, ℕ, zero, suc, ◌+◌, ◌<◌, ◌==◌, nat_lt, Bool, true, false, ◌&&◌, ◌||◌, cond, List, [], ◌∷◌, length, refl, sym, ◌∙◌, ap, subst, arith}
use Rattle.std.specs.List.{list_all}
use Rattle.std.proofs.lemmas.Bool.{and_from, and_parts}
use Rattle.std.proofs.lemmas.Bool.Decides.{nat_tests}
use Rattle.qp_chart.specs.StateTree.{has}
use Rattle.qp_model.specs.declared.bodies.Body.{Body}
use Rattle.qp_model.specs.declared.bodies.Body.TheVariants.{New, Back}
use Rattle.qp_model.specs.Record.{Item}
use Rattle.qp_model.specs.Lists.{count_up, without_one, without_all, with_number, is_first}
use Rattle.qp_model.specs.Machine.{after, is_allowed}
use Rattle.qp_model.specs.FreeBlocks.{Pool, free_blocks, pool_may, pool_next}
use Rattle.qp_model.proofs.MachineLemmas.{after-keeps}
use Rattle.qp_model.proofs.ListLemmas.{all-without}

-- each number is below the later ones
abbrev pub ascends : List ℕ → Bool
ascends [] = true
ascends (x ∷ xs) = list_all (λ y. nat_lt x y) xs && ascends xs

ascends-without : (b : ℕ) (xs : List ℕ) → ascends xs ≡ true → ascends (without_all b xs) ≡ true
ascends-without b [] h = refl
ascends-without b (x ∷ xs) h = go (x == b) (ascends-without b xs (and_parts _ _ h).1)
  where
    go : (u : Bool) → ascends (without_all b xs) ≡ true → ascends (cond u (without_all b xs) (x ∷ without_all b xs)) ≡ true
    go true later = later
    go false later = and_from _ _ (all-without (λ y. nat_lt x y) b xs (and_parts _ _ h).0) later

all-with : (p : ℕ → Bool) (n : ℕ) (xs : List ℕ) → p n ≡ true → list_all p xs ≡ true → list_all p (with_number n xs) ≡ true
all-with p n [] h k = and_from _ _ h refl
all-with p n (x ∷ xs) h k = go (nat_lt n x) (n == x) (all-with p n xs h (and_parts _ _ k).1)
  where
    go : (u v : Bool) → list_all p (with_number n xs) ≡ true → list_all p (cond u (n ∷ x ∷ xs) (cond v (x ∷ xs) (x ∷ with_number n xs))) ≡ true
    go true v later = and_from _ _ h k
    go false true later = k
    go false false later = and_from _ _ (and_parts _ _ k).0 later

all-above : (n x : ℕ) (xs : List ℕ) → n < x → list_all (λ y. nat_lt x y) xs ≡ true → list_all (λ y. nat_lt n y) xs ≡ true
all-above n x [] lt h = refl
all-above n x (y ∷ ys) lt h =
    let first : nat_lt x y ≡ true = (and_parts _ _ h).0 in
    let here : nat_lt n y ≡ true = grind (arith, nat_tests) in
    and_from _ _ here (all-above n x ys lt (and_parts _ _ h).1)

ascends-with : (n : ℕ) (xs : List ℕ) → ascends xs ≡ true → ascends (with_number n xs) ≡ true
ascends-with n [] h = refl
ascends-with n (x ∷ xs) h = go (nat_lt n x) (n == x) refl refl (ascends-with n xs (and_parts _ _ h).1)
  where
    go : (u v : Bool) → nat_lt n x ≡ u → (n == x) ≡ v → ascends (with_number n xs) ≡ true → ascends (cond u (n ∷ x ∷ xs) (cond v (x ∷ xs) (x ∷ with_number n xs))) ≡ true
    go true v e f later =
        let lt : n < x = grind (arith, nat_tests) in
        and_from _ _ (and_from _ _ e (all-above n x xs lt (and_parts _ _ h).0)) h
    go false true e f later = h
    go false false e f later =
        let lt : nat_lt x n ≡ true = grind (arith, nat_tests) in
        and_from _ _ (all-with (λ y. nat_lt x y) n xs lt (and_parts _ _ h).0) later

above-count_up : (x from n : ℕ) → x < from → list_all (λ y. nat_lt x y) (count_up from n) ≡ true
above-count_up x from zero lt = refl
above-count_up x from (suc n) lt =
    let here : nat_lt x from ≡ true = grind (arith, nat_tests) in
    and_from _ _ here (above-count_up x (from + 1) n (omega (arith, lt)))

ascends-count_up : (from n : ℕ) → ascends (count_up from n) ≡ true
ascends-count_up from zero = refl
ascends-count_up from (suc n) = and_from _ _ (above-count_up from (from + 1) n (omega arith)) (ascends-count_up (from + 1) n)

free_stays : (blocks : ℕ) (s : Pool) (b : Body) → pool_may blocks s b ≡ true → ascends s.free ≡ true → ascends (pool_next s b).free ≡ true
free_stays blocks s (New p n b from sig pars) h k = ascends-without b s.free k
free_stays blocks s (Back p n b to) h k = ascends-with b s.free k
free_stays blocks s _ h k = absurd (cc)

pub free-ascends : (blocks : ℕ) (history : List Item) → is_allowed (free_blocks blocks) history ≡ true → ascends (after (free_blocks blocks) history).free ≡ true
free-ascends blocks history h = after-keeps (free_blocks blocks) (λ s. ascends s.free ≡ true) (λ s i may k. free_stays blocks s i.body may k) (ascends-count_up 0 blocks) history h

-- How many are left.

without-above : (b : ℕ) (xs : List ℕ) → list_all (λ y. nat_lt b y) xs ≡ true → without_all b xs ≡ xs
without-above b [] h = refl
without-above b (x ∷ xs) h =
    let first : nat_lt b x ≡ true = (and_parts _ _ h).0 in
    let other : (x == b) ≡ false = grind (arith, nat_tests) in
    rw other (ap (λ ys. x ∷ ys) (without-above b xs (and_parts _ _ h).1))

pub length-without_first : (b : ℕ) (xs : List ℕ) → ascends xs ≡ true → is_first b xs ≡ true → length (without_all b xs) + 1 ≡ length xs
length-without_first b [] h k = absurd (cc)
length-without_first b (x ∷ xs) h k = go (x == b) k
  where
    is : x ≡ b
    is = grind (arith, nat_tests)

    same : without_all b xs ≡ xs
    same = subst (λ y. without_all y xs ≡ xs) is (without-above x xs (and_parts _ _ h).0)

    go : (u : Bool) → u ≡ true → length (cond u (without_all b xs) (x ∷ without_all b xs)) + 1 ≡ suc (length xs)
    go true e = rw same (omega arith)
    go false e = absurd (cc)

pub length-with_number : (n : ℕ) (xs : List ℕ) → has xs n ≡ false → length (with_number n xs) ≡ suc (length xs)
length-with_number n [] h = refl
length-with_number n (x ∷ xs) h = go (nat_lt n x) (n == x) (x == n) refl refl h (length-with_number n xs)
  where
    go : (u v w : Bool) → (n == x) ≡ v → (x == n) ≡ w → (w || has xs n) ≡ false → (has xs n ≡ false → length (with_number n xs) ≡ suc (length xs))
        → length (cond u (n ∷ x ∷ xs) (cond v (x ∷ xs) (x ∷ with_number n xs))) ≡ suc (suc (length xs))
    go true v w e f k later = refl
    go false v true e f k later = absurd (cc)
    go false true false e f k later = let is : n ≡ x = grind (arith, nat_tests) in let wrong : (x == n) ≡ true = grind (arith, nat_tests) in let bad : false ≡ true = sym f ∙ wrong in absurd (cc)
    go false false false e f k later = ap suc (later k)

pub length-without_one : (names : List ℕ) (k : ℕ) → has names k ≡ true → length (without_one k names) + 1 ≡ length names
length-without_one [] k h = absurd (cc)
length-without_one (x ∷ xs) k h = go (x == k) h (length-without_one xs k)
  where
    go : (u : Bool) → (u || has xs k) ≡ true → (has xs k ≡ true → length (without_one k xs) + 1 ≡ length xs) → length (cond u xs (x ∷ without_one k xs)) + 1 ≡ suc (length xs)
    go true e later = omega arith
    go false e later = let n = later e in omega (arith, n)
