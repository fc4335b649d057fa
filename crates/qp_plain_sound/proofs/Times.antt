-- How often tokens and references occur, when one comes or goes.
use Rattle.std.proofs.Common.{◌≡◌, ◌≢◌, ℕ, zero, suc, ◌+◌, ◌<◌, ◌==◌, Bool, true, false, ◌||◌, cond, List, [], ◌∷◌, ◌++◌, refl, ◌∙◌, ap, arith}
use Rattle.std.specs.List.{list_any, list_all}
use Rattle.std.proofs.lemmas.Bool.{and_from, and_parts}
use Rattle.std.proofs.lemmas.Bool.Decides.{nat_tests}
use Rattle.qp_chart.specs.StateTree.{has}
use Rattle.qp_model.specs.Lists.{without_one}
use Rattle.qp_calls.specs.Tokens.{Token, same_token, take_out, stands}
use Rattle.qp_calls.proofs.HandLemmas.{same-equal, same-self}
use Rattle.qp_calls.specs.Counting.{one_if, times}
use Rattle.qp_plain_sound.specs.Sound.{sum_below}

-- a token that stands is taken out once
pub times-take_out : (t u : Token) (hands : List Token) → stands t hands ≡ true → times (same_token u) (take_out t hands) + one_if (same_token u t) ≡ times (same_token u) hands
unfolding times stands take_out
times-take_out t u [] h = cc
times-take_out t u (x ∷ xs) h = go (same_token t x) refl h (times-take_out t u xs)
  where
    go : (b : Bool) → same_token t x ≡ b → (b || list_any (λ y. same_token t y) xs) ≡ true
        → (list_any (λ y. same_token t y) xs ≡ true → times (same_token u) (take_out t xs) + one_if (same_token u t) ≡ times (same_token u) xs)
        → times (same_token u) (cond b xs (x ∷ take_out t xs)) + one_if (same_token u t) ≡ one_if (same_token u x) + times (same_token u) xs
    go true is e later = let same : t ≡ x = same-equal t x is in rw same (omega arith)
    go false is e later = let k = later e in omega (arith, k)

-- one that doesn't stand changes nothing
pub take_out-absent : (t : Token) (hands : List Token) → stands t hands ≡ false → take_out t hands ≡ hands
unfolding stands take_out
take_out-absent t [] h = refl
take_out-absent t (x ∷ xs) h = go (same_token t x) h (take_out-absent t xs)
  where
    go : (b : Bool) → (b || list_any (λ y. same_token t y) xs) ≡ false → (list_any (λ y. same_token t y) xs ≡ false → take_out t xs ≡ xs)
        → cond b xs (x ∷ take_out t xs) ≡ x ∷ xs
    go true e later = cc
    go false e later = ap (λ ys. x ∷ ys) (later e)

-- a token that stands occurs
pub stands-times : (t : Token) (hands : List Token) → stands t hands ≡ true → 0 < times (same_token t) hands
stands-times t hands h = let n = times-take_out t t hands h in let k : one_if (same_token t t) ≡ 1 = rw (same-self t) refl in omega (arith, n, k)

pub all-take_out : (p : Token → Bool) (t : Token) (hands : List Token) → list_all p hands ≡ true → list_all p (take_out t hands) ≡ true
unfolding take_out
all-take_out p t [] h = refl
all-take_out p t (x ∷ xs) h = go (same_token t x) (all-take_out p t xs (and_parts _ _ h).1)
  where
    go : (b : Bool) → list_all p (take_out t xs) ≡ true → list_all p (cond b xs (x ∷ take_out t xs)) ≡ true
    go true later = (and_parts _ _ h).1
    go false later = and_from _ _ (and_parts _ _ h).0 later

pub all-stands : (p : Token → Bool) (t : Token) (hands : List Token) → list_all p hands ≡ true → stands t hands ≡ true → p t ≡ true
unfolding stands
all-stands p t [] h k = cc
all-stands p t (x ∷ xs) h k = go (same_token t x) refl k (λ e. all-stands p t xs (and_parts _ _ h).1 e)
  where
    go : (b : Bool) → same_token t x ≡ b → (b || list_any (λ y. same_token t y) xs) ≡ true → (list_any (λ y. same_token t y) xs ≡ true → p t ≡ true) → p t ≡ true
    go true is e later = ap p (same-equal t x is) ∙ (and_parts _ _ h).0
    go false is e later = later e

-- a reference that occurs is one of the list
pub has-times : (refs : List ℕ) (k : ℕ) → 0 < times (λ x. x == k) refs → has refs k ≡ true
unfolding times
has-times [] k lt = absurd (omega arith)
has-times (x ∷ xs) k lt = go (x == k) lt (has-times xs k)
  where
    go : (b : Bool) → 0 < one_if b + times (λ x. x == k) xs → (0 < times (λ x. x == k) xs → has xs k ≡ true) → (b || has xs k) ≡ true
    go true h later = refl
    go false h later = later (omega arith)

pub times-without_one : (refs : List ℕ) (k r : ℕ) → has refs k ≡ true → times (λ x. x == r) (without_one k refs) + one_if (k == r) ≡ times (λ x. x == r) refs
unfolding times
times-without_one [] k r h = cc
times-without_one (x ∷ xs) k r h = go (x == k) refl h (times-without_one xs k r)
  where
    go : (b : Bool) → (x == k) ≡ b → (b || has xs k) ≡ true → (has xs k ≡ true → times (λ y. y == r) (without_one k xs) + one_if (k == r) ≡ times (λ y. y == r) xs)
        → times (λ y. y == r) (cond b xs (x ∷ without_one k xs)) + one_if (k == r) ≡ one_if (x == r) + times (λ y. y == r) xs
    go true is e later = let same : x ≡ k = grind (arith, nat_tests) in rw same (omega arith)
    go false is e later = let n = later e in omega (arith, n)

pub times-append : {X : Type 0} (p : X → Bool) (xs ys : List X) → times p (xs ++ ys) ≡ times p xs + times p ys
unfolding times
times-append p [] ys = omega arith
times-append p (x ∷ xs) ys = let k = times-append p xs ys in omega (arith, k)

-- sums whose parts are the same
pub sum-same : (n : ℕ) (f g : ℕ → ℕ) → ((a : ℕ) → a < n → g a ≡ f a) → sum_below n g ≡ sum_below n f
unfolding sum_below
sum-same zero f g same = refl
sum-same (suc n) f g same = let k = sum-same n f g (λ a lt. same a (omega arith)) in let here : g n ≡ f n = same n (omega arith) in omega (arith, k, here)

-- and where one part differs
pub sum-change : (n a : ℕ) (f g : ℕ → ℕ) → a < n → ((c : ℕ) → a ≢ c → g c ≡ f c) → sum_below n g + f a ≡ sum_below n f + g a
unfolding sum_below
sum-change zero a f g lt same = absurd (omega arith)
sum-change (suc n) a f g lt same = go (a == n) refl (λ less. sum-change n a f g less same)
  where
    go : (b : Bool) → (a == n) ≡ b → (a < n → sum_below n g + f a ≡ sum_below n f + g a) → (sum_below n g + g n) + f a ≡ (sum_below n f + f n) + g a
    go true e later =
        let is : a ≡ n = grind (arith, nat_tests) in
        let rest : sum_below n g ≡ sum_below n f = sum-same n f g (λ c below. same c (differs c below is)) in
        let here : f a ≡ f n = ap f is in
        let there : g a ≡ g n = ap g is in
        omega (arith, rest, here, there)
      where
        differs : (c : ℕ) → c < n → a ≡ n → a ≢ c
        differs c below is = λ e. omega (arith, below, is, e)
    go false e later =
        let differ : a ≢ n = grind (arith, nat_tests) in
        let less : a < n = grind (arith, nat_tests) in
        let k = later less in
        let here : g n ≡ f n = same n differ in
        omega (arith, k, here)

-- a token that is another one
pub times-other : (t u : Token) (hands : List Token) → same_token u t ≡ false → times (same_token u) (take_out t hands) ≡ times (same_token u) hands
times-other t u hands other = go (stands t hands) refl
  where
    go : (b : Bool) → stands t hands ≡ b → times (same_token u) (take_out t hands) ≡ times (same_token u) hands
    go true e = let k = times-take_out t u hands e in let z : one_if (same_token u t) ≡ 0 = rw other refl in omega (arith, k, z)
    go false e = ap (times (same_token u)) (take_out-absent t hands e)
