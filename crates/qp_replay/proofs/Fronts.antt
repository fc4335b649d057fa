-- In a serial order the records of a lane stand in their order: before each stand just those before it in its lane.
use Rattle.std.proofs.Common.{◌≡◌, ◌∙◌, ℕ, zero, suc, ◌+◌, ◌<◌, ◌≤◌, ◌==◌, nat_lt, Bool, true, false, ◌&&◌, ◌||◌, List, [], ◌∷◌, ◌++◌, length, get_or, refl, sym, ap, subst, arith, Some, IsTrue}
use Rattle.std.specs.Prelude.{slice_get, IsPermutation}
use Rattle.std.specs.List.{AllByRecursion, sum_by}
use Rattle.std.proofs.lemmas.Bool.{and_from, and_parts, eqb-true, ltb-true}
use Rattle.std.proofs.lemmas.Bool.Decides.{nat_tests}
use Rattle.std.proofs.lemmas.List.Sums.{sum_by-cons}
use Rattle.std.proofs.lemmas.List.Sorted.{sum_by-IsPermutation}
use Rattle.qp_model.specs.declared.record.Rec.{Rec}
use Rattle.qp_calls.specs.Counting.{one_if, times}
use Rattle.qp_plain_sound.proofs.Times.{times-append}
use Rattle.qp_model.specs.Places.{IsSerial, RecordPlace, item_at, must_precede, places, places_from, places_in, touch_at, touch_first}

tally-sum : {A : Type 0} (p : A → Bool) (xs : List A) → times p xs ≡ sum_by (λ x. one_if (p x)) xs
unfolding times
tally-sum p [] = refl
tally-sum p (x ∷ xs) = ap (λ n. one_if (p x) + n) (tally-sum p xs) ∙ sym (sum_by-cons (λ x. one_if (p x)) x xs)

pub tally-permutation : {A : Type 0} (p : A → Bool) (xs ys : List A) → IsPermutation xs ys → times p ys ≡ times p xs
tally-permutation p xs ys all = tally-sum p ys ∙ sum_by-IsPermutation (λ x. one_if (p x)) xs ys all ∙ sym (tally-sum p xs)

-- one test says no more than the other
tally-less : {A : Type 0} (p q : A → Bool) (xs : List A) → ((x : A) → p x ≡ true → q x ≡ true) → times p xs ≤ times q xs
unfolding times
tally-less p q [] go = omega arith
tally-less p q (x ∷ xs) go = by (p x) (q x) (go x) (tally-less p q xs go)
  where
    by : (u v : Bool) → (u ≡ true → v ≡ true) → times p xs ≤ times q xs → one_if u + times p xs ≤ one_if v + times q xs
    by true true h less = omega (arith, less)
    by true false h less = let no : false ≡ true = h refl in absurd (cc)
    by false true h less = omega (arith, less)
    by false false h less = omega (arith, less)

tally-none : {A : Type 0} (p : A → Bool) (xs : List A) → AllByRecursion (λ x. p x ≡ false) xs → times p xs ≡ 0
unfolding times
tally-none p [] h = refl
tally-none p (x ∷ xs) h = let more = tally-none p xs h.1 in let none : one_if (p x) ≡ 0 = ap one_if h.0 in omega (arith, more, none)

pub tally-same : {A : Type 0} (p q : A → Bool) (xs : List A) → AllByRecursion (λ x. p x ≡ q x) xs → times p xs ≡ times q xs
unfolding times
tally-same p q [] h = refl
tally-same p q (x ∷ xs) h = let more = tally-same p q xs h.1 in let here : one_if (p x) ≡ one_if (q x) = ap one_if h.0 in omega (arith, more, here)

-- a place of lane a before place n of it
abbrev pub below : ℕ → ℕ → RecordPlace → Bool
below a n y = (y.lane == a) && nat_lt y.at n

none-past : (a n k at : ℕ) (rs : List Rec) → n ≤ at → times (below a n) (places_in k at rs) ≡ 0
unfolding times places_in
none-past a n k at [] le = refl
none-past a n k at (r ∷ rs) le =
    let more = none-past a n k (suc at) rs (omega (arith, le)) in
    let no : nat_lt at n ≡ false = grind (arith, nat_tests, le) in
    let none : one_if ((k == a) && nat_lt at n) ≡ 0 = go (k == a) (nat_lt at n) no in
    omega (arith, more, none)
  where
    go : (u v : Bool) → v ≡ false → one_if (u && v) ≡ 0
    go true v e = ap one_if e
    go false v e = refl

none-elsewhere : (a n k at : ℕ) (rs : List Rec) → (k == a) ≡ false → times (below a n) (places_in k at rs) ≡ 0
unfolding times places_in
none-elsewhere a n k at [] other = refl
none-elsewhere a n k at (r ∷ rs) other =
    let more = none-elsewhere a n k (suc at) rs other in
    let none : one_if ((k == a) && nat_lt at n) ≡ 0 = ap (λ u. one_if (u && nat_lt at n)) other in
    omega (arith, more, none)

all-below : (a n at : ℕ) (rs : List Rec) → at ≤ n → n ≤ at + length rs → times (below a n) (places_in a at rs) + at ≡ n
unfolding times places_in
all-below a n at [] low high = omega (arith, low, high)
all-below a n at (r ∷ rs) low high = go (nat_lt at n) refl (λ less. all-below a n (suc at) rs less (omega (arith, high)))
  where
    self : (a == a) ≡ true
    self = grind (arith, nat_tests)

    go : (b : Bool) → nat_lt at n ≡ b → (suc at ≤ n → times (below a n) (places_in a (suc at) rs) + suc at ≡ n) → one_if ((a == a) && nat_lt at n) + times (below a n) (places_in a (suc at) rs) + at ≡ n
    go true e later =
        let less : at < n = grind (arith, nat_tests, e) in
        let more = later (omega (arith, less)) in
        let one_if : one_if ((a == a) && nat_lt at n) ≡ 1 = rw (self, e) refl in
        omega (arith, more, one_if)
    go false e later =
        let le : n ≤ at = grind (arith, nat_tests, e) in
        let more = none-past a n a (suc at) rs (omega (arith, le)) in
        let none : one_if ((a == a) && nat_lt at n) ≡ 0 = rw (self, e) refl in
        omega (arith, more, none, le, low)

none-before : (a n k : ℕ) (ls : List (List Rec)) → a < k → times (below a n) (places_from k ls) ≡ 0
unfolding times places_from
none-before a n k [] less = refl
none-before a n k (l ∷ ls) less =
    let other : (k == a) ≡ false = grind (arith, nat_tests, less) in
    let first = none-elsewhere a n k 0 l other in
    let more = none-before a n (suc k) ls (omega (arith, less)) in
    let sum = times-append (below a n) (places_in k 0 l) (places_from (suc k) ls) in
    omega (arith, first, more, sum)

-- lane a of these, from lane k on, has n places below n
pub in-lane : (a n k m : ℕ) (ls : List (List Rec)) → a ≡ k + m → m < length ls → n ≤ length (get_or ls m []) → times (below a n) (places_from k ls) ≡ n
unfolding times places_from
in-lane a n k m [] is less few = absurd (omega (arith, less))
in-lane a n k zero (l ∷ ls) is less few =
    let same : k ≡ a = omega (arith, is) in
    let first = all-below a n 0 l (omega arith) (omega (arith, few)) in
    let here : times (below a n) (places_in k 0 l) ≡ times (below a n) (places_in a 0 l) = ap (λ x. times (below a n) (places_in x 0 l)) same in
    let more = none-before a n (suc k) ls (omega (arith, same)) in
    let sum = times-append (below a n) (places_in k 0 l) (places_from (suc k) ls) in
    omega (arith, first, here, more, sum)
in-lane a n k (suc m) (l ∷ ls) is less few =
    let other : (k == a) ≡ false = grind (arith, nat_tests, is) in
    let first = none-elsewhere a n k 0 l other in
    let more = in-lane a n (suc k) m ls (omega (arith, is)) (omega (arith, less)) few in
    let sum = times-append (below a n) (places_in k 0 l) (places_from (suc k) ls) in
    omega (arith, first, more, sum)

-- each by its index
indexed : {A : Type 0} (P : A → Type 0) (xs : List A) → ((k : ℕ) (y : A) → slice_get xs k ≡ Some y → P y) → AllByRecursion P xs
indexed P [] h = tt
indexed P (x ∷ xs) h = (h 0 x refl, indexed P xs (λ k y at. h (suc k) y at))

get-front : {A : Type 0} (xs ys : List A) (k : ℕ) (y : A) → slice_get xs k ≡ Some y → (slice_get (xs ++ ys) k ≡ Some y) × (k < length xs)
get-front [] ys k y at = absurd (cc)
get-front (x ∷ xs) ys zero y at = (at, omega arith)
get-front (x ∷ xs) ys (suc k) y at = let more = get-front xs ys k y at in (more.0, let less = more.1 in omega (arith, less))

get-behind : {A : Type 0} (xs ys : List A) (k : ℕ) (y : A) → slice_get ys k ≡ Some y → slice_get (xs ++ ys) (length xs + k) ≡ Some y
get-behind {A = A} [] ys k y at = let same : k ≡ length {A = A} [] + k = omega arith in subst (λ n. slice_get ys n ≡ Some y) same at
get-behind (x ∷ xs) ys k y at =
    let next : suc (length xs + k) ≡ length (x ∷ xs) + k = omega arith in
    subst (λ n. slice_get (x ∷ (xs ++ ys)) n ≡ Some y) next (get-behind xs ys k y at)

past : (x y : ℕ) → nat_lt x (suc y) ≡ false → y < x
past x y h = grind (arith, nat_tests, h)

pub record Stands (lanes : List (List Rec)) (A : List RecordPlace) (x : RecordPlace) : Type 0 where
  pub lane : x.lane < length lanes
  pub within : x.at < length (get_or lanes x.lane [])
  -- before it stand just those before it in its lane
  pub count : times (λ y. y.lane == x.lane) A ≡ x.at

module _ (lanes : List (List Rec)) (order A B : List RecordPlace) (x : RecordPlace) (serial : IsSerial lanes order) (split : order ≡ A ++ x ∷ B) (lane : x.lane < length lanes)
    (within : x.at < length (get_or lanes x.lane [])) where
  n : ℕ
  n = x.at

  a : ℕ
  a = x.lane

  pairs : (i k : ℕ) (y z : RecordPlace) → slice_get (A ++ x ∷ B) i ≡ Some y → slice_get (A ++ x ∷ B) k ≡ Some z → IsTrue (must_precede lanes y z) → i < k
  pairs = subst (λ xs. (i k : ℕ) (y z : RecordPlace) → slice_get xs i ≡ Some y → slice_get xs k ≡ Some z → IsTrue (must_precede lanes y z) → i < k) split serial.before

  here : slice_get (A ++ x ∷ B) (length A + 0) ≡ Some x
  here = get-behind A (x ∷ B) 0 x refl

  -- a place before another of its lane must come before it
  first : (y z : RecordPlace) → y.lane ≡ z.lane → y.at < z.at → IsTrue (must_precede lanes y z)
  unfolding must_precede
  first y z same less = go (y.lane == z.lane) (nat_lt y.at z.at) (grind (arith, nat_tests, same)) (grind (arith, nat_tests, less))
    where
      go : (u v : Bool) → u ≡ true → v ≡ true → ((u && v) || touch_first (touch_at (item_at lanes y)) (touch_at (item_at lanes z))) ≡ true
      go true true e f = refl
      go true false e f = absurd (cc)
      go false v e f = absurd (cc)

  behind-none : AllByRecursion (λ y. below a n y ≡ false) B
  unfolding n a
  behind-none = indexed (λ y. below a n y ≡ false) B one_if
    where
      one_if : (k : ℕ) (y : RecordPlace) → slice_get B k ≡ Some y → below a n y ≡ false
      one_if k y at = go (below a n y) refl
        where
          go : (b : Bool) → below a n y ≡ b → b ≡ false
          go false e = refl
          go true e =
              let parts = and_parts (y.lane == a) (nat_lt y.at n) e in
              let same : y.lane ≡ x.lane = eqb-true y.lane x.lane parts.0 in
              let less : y.at < x.at = ltb-true y.at x.at parts.1 in
              let order = pairs (length A + suc k) (length A + 0) y x (get-behind A (x ∷ B) (suc k) y at) here (first y x same less) in
              absurd (omega (arith, order))

  front-below : AllByRecursion (λ y. (y.lane == a) ≡ below a (suc n) y) A
  unfolding n a
  front-below = indexed (λ y. (y.lane == a) ≡ below a (suc n) y) A one_if
    where
      one_if : (k : ℕ) (y : RecordPlace) → slice_get A k ≡ Some y → (y.lane == a) ≡ below a (suc n) y
      one_if k y at = go (y.lane == a) refl (nat_lt y.at (suc n)) refl
        where
          go : (u : Bool) → (y.lane == a) ≡ u → (v : Bool) → nat_lt y.at (suc n) ≡ v → u ≡ (u && v)
          go false e v f = refl
          go true e true f = refl
          go true e false f =
              let same : x.lane ≡ y.lane = sym (eqb-true y.lane x.lane e) in
              let less : x.at < y.at = past y.at x.at f in
              let found = get-front A (x ∷ B) k y at in
              let order = pairs (length A + 0) k x y here found.0 (first x y same less) in
              let within = found.1 in
              absurd (omega (arith, order, within))

  total : (m : ℕ) → m ≤ length (get_or lanes a []) → times (below a m) A + (one_if (below a m x) + times (below a m) B) ≡ m
  unfolding times places n a
  total m few =
      sym (times-append (below a m) A (x ∷ B)) ∙ ap (times (below a m)) (sym split) ∙ tally-permutation (below a m) (places lanes) order serial.all
      ∙ in-lane a m 0 a lanes (omega arith) lane few

  pub stands-there : Stands lanes A x
  unfolding n a
  stands-there = record { lane = lane; within = within; count = tally-same (λ y. y.lane == a) (below a (suc n)) A front-below ∙ same }
    where
      self : (a == a) ≡ true
      self = grind (arith, nat_tests)

      not_before : nat_lt n n ≡ false
      not_before = grind (arith, nat_tests)

      before_next : nat_lt n (suc n) ≡ true
      before_next = grind (arith, nat_tests)

      same : times (below a (suc n)) A ≡ n
      same =
          let low = total n (omega (arith, within)) in
          let high = total (suc n) (omega (arith, within)) in
          let none : one_if (below a n x) ≡ 0 = rw (self, not_before) refl in
          let one_if : one_if (below a (suc n) x) ≡ 1 = rw (self, before_next) refl in
          let rest = tally-none (below a n) B behind-none in
          let grows = tally-less (below a n) (below a (suc n)) A (λ y h. more y (and_parts (y.lane == a) (nat_lt y.at n) h)) in
          omega (arith, low, high, none, one_if, rest, grows)
        where
          more : (y : RecordPlace) → ((y.lane == a) ≡ true) × (nat_lt y.at n ≡ true) → below a (suc n) y ≡ true
          more y h = let less : y.at < n = ltb-true y.at n h.1 in and_from _ _ h.0 (grind (arith, nat_tests, less))
