-- Tests of lists, and an element put into the middle of one.
use Rattle.std.proofs.Common.{◌≡◌, ◌∙◌, ℕ, zero, suc, ◌<◌, nat_le, Bool, true, false, ◌&&◌, ◌||◌, ◌==◌, subst, cond, List, [], ◌∷◌, ◌++◌, length, refl, ap, Some, None, arith, ◌-◌, sym, ◌+◌, reverse, nat_lt, ◌≤◌, map, take, slice_set}
use borrow.Author.Count.{below_more}
use Rattle.std.specs.declared.option.Option.{Option}
use Rattle.std.specs.Option.{option_map}
use Rattle.std.specs.List.{AllByRecursion, filter, list_all, slice_get, list_any}
use Rattle.std.proofs.lemmas.Bool.{and_from, and_parts, or_right}
use Rattle.std.proofs.lemmas.Bool.Decides.{nat_tests}
use Rattle.std.proofs.lemmas.List.Folds.{list_all-append}
use Rattle.std.proofs.lemmas.Option.{none-some}
use Rattle.std.proofs.lemmas.List.{reverse-append}
use Rattle.qp_chart.specs.StateTree.{has}
use Rattle.qp_model.specs.Lists.{all_below, never_falls, with_number, without_all, count_up}

-- what holds of each number below n, holds of one
pub all_below_at : (n : ℕ) (p : ℕ → Bool) → all_below n p ≡ true → (k : ℕ) → k < n → p k ≡ true
unfolding all_below
all_below_at zero p h k lt = absurd (omega arith)
all_below_at (suc n) p h k lt =
    let parts : (all_below n p ≡ true) × (p n ≡ true) = and_parts _ _ h in
    below_more (λ j. p j ≡ true) n (all_below_at n p parts.0) parts.1 k (omega arith)

pub all_below_from : (n : ℕ) (p : ℕ → Bool) → ((k : ℕ) → k < n → p k ≡ true) → all_below n p ≡ true
unfolding all_below
all_below_from zero p h = refl
all_below_from (suc n) p h = and_from _ _ (all_below_from n p (λ k lt. h k (omega arith))) (h n (omega arith))

-- an element that fails the test leaves what passes it
pub filter-insert_not : {X : Type 0} (p : X → Bool) (xs : List X) (i : X) (ys : List X) → p i ≡ false → filter p (xs ++ i ∷ ys) ≡ filter p (xs ++ ys)
filter-insert_not p [] i ys h = rw h refl
filter-insert_not p (x ∷ xs) i ys h = rw (filter-insert_not p xs i ys h) refl

pub length_filter-insert : {X : Type 0} (p : X → Bool) (xs : List X) (i : X) (ys : List X) → p i ≡ true → length (filter p (xs ++ i ∷ ys)) ≡ suc (length (filter p (xs ++ ys)))
length_filter-insert p [] i ys h = rw h refl
length_filter-insert p (x ∷ xs) i ys h = go (p x) (length_filter-insert p xs i ys h)
  where
    go : (b : Bool) → length (filter p (xs ++ i ∷ ys)) ≡ suc (length (filter p (xs ++ ys)))
        → length (cond b (x ∷ filter p (xs ++ i ∷ ys)) (filter p (xs ++ i ∷ ys))) ≡ suc (length (cond b (x ∷ filter p (xs ++ ys)) (filter p (xs ++ ys))))
    go true e = ap suc e
    go false e = e

-- an element that alone passes the test is all that passes it
pub filter-insert_only : {X : Type 0} (p : X → Bool) (xs : List X) (i : X) (ys : List X) → p i ≡ true → filter p (xs ++ ys) ≡ [] → filter p (xs ++ i ∷ ys) ≡ i ∷ []
filter-insert_only p [] i ys h none = rw (h, none) refl
filter-insert_only {X} p (x ∷ xs) i ys h none = go (filter-insert_only p xs i ys h) (p x) none
  where
    go : (filter p (xs ++ ys) ≡ [] → filter p (xs ++ i ∷ ys) ≡ i ∷ []) → (b : Bool) → cond b (x ∷ filter p (xs ++ ys)) (filter p (xs ++ ys)) ≡ [] → cond b (x ∷ filter p (xs ++ i ∷ ys)) (filter p (xs ++ i ∷ ys)) ≡ i ∷ []
    go later true e = cc
    go later false e = later e

-- a test that none of the elements passes
pub filter-none : {X : Type 0} (p q : X → Bool) (xs : List X) → ((x : X) → q x ≡ true → p x ≡ false) → list_all q xs ≡ true → filter p xs ≡ []
filter-none p q [] not_p h = refl
filter-none p q (x ∷ xs) not_p h = rw (not_p x (and_parts _ _ h).0) (filter-none p q xs not_p (and_parts _ _ h).1)

-- a test of all that one element more passes, and that the others pass because they passed another
pub list_all-insert : {X : Type 0} (p q : X → Bool) (xs : List X) (i : X) (ys : List X) → ((x : X) → p x ≡ true → q x ≡ true) → q i ≡ true → list_all p (xs ++ ys) ≡ true → list_all q (xs ++ i ∷ ys) ≡ true
list_all-insert p q [] i [] more h all = rw h refl
list_all-insert {X} p q [] i (y ∷ ys) more h all = and_from _ _ h (and_from _ _ (more y (and_parts _ _ all).0) (tail ys (and_parts _ _ all).1))
  where
    tail : (zs : List X) → list_all p zs ≡ true → list_all q zs ≡ true
    tail [] e = refl
    tail (z ∷ zs) e = and_from _ _ (more z (and_parts _ _ e).0) (tail zs (and_parts _ _ e).1)
list_all-insert p q (x ∷ xs) i ys more h all = and_from _ _ (more x (and_parts _ _ all).0) (list_all-insert p q xs i ys more h (and_parts _ _ all).1)

-- the front, and the middle, of a list that passes a test pass it
pub list_all-front : {X : Type 0} (p : X → Bool) (xs ys : List X) → list_all p (xs ++ ys) ≡ true → list_all p xs ≡ true
list_all-front p [] ys h = refl
list_all-front p (x ∷ xs) ys h = and_from _ _ (and_parts _ _ h).0 (list_all-front p xs ys (and_parts _ _ h).1)

pub list_all-middle : {X : Type 0} (p : X → Bool) (xs ys zs : List X) → list_all p ((xs ++ ys) ++ zs) ≡ true → list_all p ys ≡ true
list_all-middle p [] ys zs h = list_all-front p ys zs h
list_all-middle p (x ∷ xs) ys zs h = list_all-middle p xs ys zs (and_parts _ _ h).1

-- a number at the end that is at least the others
pub never_falls-last : (xs : List ℕ) (n : ℕ) → never_falls xs ≡ true → list_all (λ x. nat_le x n) xs ≡ true → never_falls (xs ++ n ∷ []) ≡ true
never_falls-last [] n h le = refl
never_falls-last (x ∷ xs) n h le =
    let here : list_all (λ y. nat_le x y) xs ≡ true = (and_parts _ _ h).0 in
    let last : nat_le x n ≡ true = (and_parts _ _ le).0 in
    rw (list_all-append (λ y. nat_le x y) xs (n ∷ []), here, last) (never_falls-last xs n (and_parts _ _ h).1 (and_parts _ _ le).1)

-- what all numbers of a list pass, one of them passes
pub list_all-has : (p : ℕ → Bool) (xs : List ℕ) (x : ℕ) → list_all p xs ≡ true → has xs x ≡ true → p x ≡ true
list_all-has p [] x all h = cc
list_all-has p (y ∷ ys) x all h = go (y == x) refl h (list_all-has p ys x (and_parts _ _ all).1)
  where
    go : (same : Bool) → (y == x) ≡ same → (same || has ys x) ≡ true → (has ys x ≡ true → p x ≡ true) → p x ≡ true
    go true e k later = let is : y ≡ x = grind (arith, nat_tests) in subst (λ n. p n ≡ true) is (and_parts _ _ all).0
    go false e k later = later k

-- one more of those that pass
pub all-push : {X : Type 0} (p : X → Bool) (xs : List X) (i : X) → list_all p xs ≡ true → p i ≡ true → list_all p (xs ++ i ∷ []) ≡ true
all-push p xs i h k = list_all-append p xs (i ∷ []) ∙ and_from _ _ h (and_from _ _ k refl)

-- what holds of each holds of one
pub each-at : {X : Type 0} (P : X → Type 0) (xs : List X) (i : ℕ) (x : X) → AllByRecursion P xs → slice_get xs i ≡ Some x → P x
each-at P [] i x all h = absurd (cc)
each-at P (y ∷ ys) zero x all h = let same : y ≡ x = cc in subst P same all.0
each-at P (y ∷ ys) (suc i) x all h = each-at P ys i x all.1 h

pub nothing-left : {X : Type 0} (xs : List X) → length xs ≡ 0 → xs ≡ []
nothing-left [] h = refl
nothing-left (x ∷ xs) h = absurd (omega (arith, h))

-- what a map of an option gives
pub mapped : {A B : Type 0} (f : A → B) (o : Option A) (y : B) → option_map f o ≡ Some y → (a : A) × (o ≡ Some a) × (f a ≡ y)
mapped f None y is = absurd (cc)
mapped f (Some a) y is = (a, refl, cc)

-- what two facts give of each thing
pub every-two : {A : Type 0} (P Q R : A → Type 0) → ((x : A) → P x → Q x → R x) → (xs : List A) → AllByRecursion P xs → AllByRecursion Q xs → AllByRecursion R xs
every-two P Q R step [] h k = tt
every-two P Q R step (x ∷ xs) h k = (step x h.0 k.0, every-two P Q R step xs h.1 k.1)

-- what holds of each holds of that at a place
pub every-at : {A : Type 0} (P : A → Type 0) (xs : List A) → AllByRecursion P xs → (i : ℕ) (x : A) → slice_get xs i ≡ Some x → P x
every-at P [] h i x at = absurd (none-some x at)
every-at P (y ∷ ys) h zero x at = let same : y ≡ x = cc in rw (sym same) h.0
every-at P (y ∷ ys) h (suc i) x at = every-at P ys h.1 i x at

-- what holds of each of two lists together
pub every-parts : {A : Type 0} (P : A → Type 0) (xs ys : List A) → AllByRecursion P (xs ++ ys) → AllByRecursion P xs × AllByRecursion P ys
every-parts P [] ys h = (tt, h)
every-parts P (x ∷ xs) ys h = let parts = every-parts P xs ys h.1 in ((h.0, parts.0), parts.1)

-- a test that each passes
pub every-test : {A : Type 0} (p : A → Bool) (xs : List A) → AllByRecursion (λ x. p x ≡ true) xs → list_all p xs ≡ true
every-test p [] h = refl
every-test p (x ∷ xs) h = and_from _ _ h.0 (every-test p xs h.1)

pub every-front : {A : Type 0} (P : A → Type 0) (xs ys : List A) → AllByRecursion P (xs ++ ys) → AllByRecursion P xs
every-front P [] ys h = tt
every-front P (x ∷ xs) ys h = (h.0, every-front P xs ys h.1)

pub nil-front : {A : Type 0} (xs ys : List A) → xs ++ ys ≡ [] → xs ≡ []
nil-front [] ys h = refl
nil-front (x ∷ xs) ys h = absurd (cc)

-- whether a number is in a list, told of its parts and of the turned list
pub or-swap : (a b : Bool) → (a || (b || false)) ≡ (b || a)
or-swap true true = refl
or-swap true false = refl
or-swap false true = refl
or-swap false false = refl

pub has-append : (xs ys : List ℕ) (p : ℕ) → has (xs ++ ys) p ≡ (has xs p || has ys p)
has-append [] ys p = refl
has-append (x ∷ xs) ys p = by (x == p) (has-append xs ys p)
  where
    by : (b : Bool) → has (xs ++ ys) p ≡ (has xs p || has ys p) → (b || has (xs ++ ys) p) ≡ ((b || has xs p) || has ys p)
    by true h = refl
    by false h = h

pub has-reverse : (xs : List ℕ) (p : ℕ) → has (reverse xs) p ≡ has xs p
has-reverse [] p = refl
has-reverse (x ∷ xs) p =
    let turned : reverse (x ∷ xs) ≡ reverse xs ++ x ∷ [] = reverse-append (x ∷ []) xs in
    rw turned (has-append (reverse xs) (x ∷ []) p) ∙ or-swap (has (reverse xs) p) (x == p) ∙ ap (λ b. (x == p) || b) (has-reverse xs p)

-- a test of all numbers of a list that is changed
pub all-with : (p : ℕ → Bool) (b : ℕ) (xs : List ℕ) → list_all p xs ≡ true → p b ≡ true → list_all p (with_number b xs) ≡ true
all-with p b [] h k = and_from _ _ k refl
all-with p b (x ∷ xs) h k = go (nat_lt b x) (b == x) (all-with p b xs (and_parts _ _ h).1 k)
  where
    go : (less same : Bool) → list_all p (with_number b xs) ≡ true → list_all p (cond less (b ∷ x ∷ xs) (cond same (x ∷ xs) (x ∷ with_number b xs))) ≡ true
    go true same later = and_from _ _ k h
    go false true later = h
    go false false later = and_from _ _ (and_parts _ _ h).0 later

pub all-without : (p : ℕ → Bool) (b : ℕ) (xs : List ℕ) → list_all p xs ≡ true → list_all p (without_all b xs) ≡ true
all-without p b [] h = refl
all-without p b (x ∷ xs) h = go (x == b) (all-without p b xs (and_parts _ _ h).1)
  where
    go : (same : Bool) → list_all p (without_all b xs) ≡ true → list_all p (cond same (without_all b xs) (x ∷ without_all b xs)) ≡ true
    go true k = k
    go false k = and_from _ _ (and_parts _ _ h).0 k

pub all-counted : (n k m : ℕ) → k + m ≤ n → list_all (λ x. nat_lt x n) (count_up k m) ≡ true
all-counted n k zero le = refl
all-counted n k (suc m) le = let less : nat_lt k n ≡ true = grind (arith, nat_tests, le) in and_from _ _ less (all-counted n (k + 1) m (omega (arith, le)))

-- a test of the things of a list, seen by a view
pub list_any-map : {X Y : Type 0} (p : Y → Bool) (f : X → Y) (xs : List X) → list_any p (map f xs) ≡ list_any (λ x. p (f x)) xs
list_any-map p f [] = refl
list_any-map p f (x ∷ xs) = ap (λ b. p (f x) || b) (list_any-map p f xs)

-- a test of all of two lists together
pub list_all-parts : {X : Type 0} (p : X → Bool) (xs ys : List X) → list_all p (xs ++ ys) ≡ true → (list_all p xs ≡ true) × (list_all p ys ≡ true)
list_all-parts p [] ys h = (refl, h)
list_all-parts p (x ∷ xs) ys h = let k = list_all-parts p xs ys (and_parts _ _ h).1 in (and_from _ _ (and_parts _ _ h).0 k.0, k.1)

-- one element more
pub take-next : {A : Type 0} (xs : List A) (n : ℕ) (y : A) → slice_get xs n ≡ Some y → take n xs ++ y ∷ [] ≡ take (suc n) xs
take-next [] n y at = absurd (cc)
take-next (x ∷ xs) zero y at = let same : x ≡ y = cc in ap (λ z. z ∷ []) (sym same)
take-next (x ∷ xs) (suc n) y at = ap (λ zs. x ∷ zs) (take-next xs n y at)

pub some-there : {A : Type 0} (xs : List A) (n : ℕ) → n < length xs → (y : A) × (slice_get xs n ≡ Some y)
some-there [] n less = absurd (omega (arith, less))
some-there (x ∷ xs) zero less = (x, refl)
some-there (x ∷ xs) (suc n) less = some-there xs n (omega (arith, less))

pub slice_set-twice : {X : Type 0} (xs : List X) (i : ℕ) (x y : X) → slice_set (slice_set xs i x) i y ≡ slice_set xs i y
slice_set-twice [] i x y = refl
slice_set-twice (z ∷ zs) zero x y = refl
slice_set-twice (z ∷ zs) (suc i) x y = ap (λ ws. z ∷ ws) (slice_set-twice zs i x y)

-- what holds of each of two lists together holds of the later, and of one between
pub every-behind : {X : Type 0} (P : X → Type 0) (xs ys : List X) → AllByRecursion P (xs ++ ys) → AllByRecursion P ys
every-behind P [] ys h = h
every-behind P (x ∷ xs) ys h = every-behind P xs ys h.1

pub every-there : {A : Type 0} (P : A → Type 0) (xs : List A) (x : A) (ys : List A) → AllByRecursion P (xs ++ x ∷ ys) → P x
every-there P [] x ys h = h.0
every-there P (y ∷ xs) x ys h = every-there P xs x ys h.1

pub has-last : (front : List ℕ) (p : ℕ) → has (front ++ p ∷ []) p ≡ true
has-last front p =
    let same : (p == p) ≡ true = grind (arith, nat_tests) in
    has-append front (p ∷ []) p ∙ ap (λ b. has front p || (b || false)) same ∙ or_right (has front p) true refl

pub and-true : (a : Bool) → (a && true) ≡ a
and-true true = refl
and-true false = refl
