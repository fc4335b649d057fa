-- Numbers of named things.
use Rattle.std.proofs.Common.{◌≡◌, ℕ, ◌+◌, ◌<◌, ◌≤◌, Bool, true, false, cond, not, ◌||◌, List, [], ◌∷◌, ◌++◌, length, map, take, get_or, Option, Some, None, refl, sym, ◌∙◌, ap, arith, ◌⊎◌, inl, inr, add-zero}
use Rattle.std.specs.Option.{is_some, option_or}
use Rattle.std.specs.Str.{bytes_eq}
use Rattle.std.proofs.lemmas.List.{take_more, length-map, length-take-le, map-append}
use Rattle.std.proofs.lemmas.Slice.Eq.{bytes_eq-Decides}
use Rattle.std.proofs.lemmas.Bool.{false≢true}
use Rattle.std.proofs.lemmas.Option.{none-some}
use Rattle.std.specs.List.{list_any}
use Rattle.qp_chart_names.specs.Known.{words}
use Rattle.qp_chart_names.specs.declared.places.NumbersByName.{NumbersByName}
use Rattle.qp_chart_names.specs.Numbering.{number_in, number_of_name, IsNumbering, AddsName}

-- a test, with what it answers
pub bool_cases : (b : Bool) → (b ≡ true) ⊎ (b ≡ false)
bool_cases true = inl refl
bool_cases false = inr refl

pub bytes_eq-self : (xs : List ℕ) → bytes_eq xs xs ≡ true
bytes_eq-self xs = (bytes_eq-Decides xs xs).1 refl

pub bytes_eq-same : (xs ys : List ℕ) → bytes_eq xs ys ≡ true → xs ≡ ys
bytes_eq-same xs ys e = (bytes_eq-Decides xs ys).0 e

pub bytes_eq-sym : (xs ys : List ℕ) → bytes_eq xs ys ≡ bytes_eq ys xs
bytes_eq-sym xs ys = by_test (bytes_eq xs ys) (bytes_eq ys xs) refl refl
  where
    by_test : (a b : Bool) → bytes_eq xs ys ≡ a → bytes_eq ys xs ≡ b → a ≡ b
    by_test true true p q = refl
    by_test false false p q = refl
    by_test true false p q = absurd (false≢true (sym q ∙ (bytes_eq-Decides ys xs).1 (sym (bytes_eq-same xs ys p))))
    by_test false true p q = absurd (false≢true (sym p ∙ (bytes_eq-Decides xs ys).1 (sym (bytes_eq-same ys xs q))))

-- a known name keeps its number
pub keeps-known : (f : List ℕ → Option ℕ) (name : List ℕ) (n : ℕ) → is_some (f name) ≡ true → (q : List ℕ) → f q ≡ option_or (f q) (cond (bytes_eq q name) (Some n) None)
keeps-known f name n known q = by_value (f q) refl
  where
    by_value : (o : Option ℕ) → f q ≡ o → o ≡ option_or o (cond (bytes_eq q name) (Some n) None)
    by_value (Some x) e = refl
    by_value None e = by_test (bytes_eq q name) refl
      where
        by_test : (b : Bool) → bytes_eq q name ≡ b → None ≡ cond b (Some n) None
        by_test false is = refl
        by_test true is =
            let at_name : f name ≡ None = ap f (sym (bytes_eq-same q name is)) ∙ e in
            absurd (false≢true (sym (ap is_some at_name) ∙ known))

-- a new name gets its number, and each other name keeps what it had
pub adds-new : (f g : List ℕ → Option ℕ) (name : List ℕ) (n : ℕ) → is_some (f name) ≡ false → ((q : List ℕ) → g q ≡ cond (bytes_eq name q) (Some n) (f q)) → (q : List ℕ) → g q ≡ option_or (f q) (cond (bytes_eq q name) (Some n) None)
adds-new f g name n new steps q = steps q ∙ by_test (bytes_eq q name) refl
  where
    none : (o : Option ℕ) → is_some o ≡ false → o ≡ None
    none None e = refl
    none (Some x) e = absurd (false≢true (sym e))

    last : (o : Option ℕ) → o ≡ option_or o None
    last None = refl
    last (Some x) = refl

    by_test : (b : Bool) → bytes_eq q name ≡ b → cond (bytes_eq name q) (Some n) (f q) ≡ option_or (f q) (cond b (Some n) None)
    by_test true is =
        let at_name : f q ≡ None = ap f (bytes_eq-same q name is) ∙ none (f name) new in
        rw (bytes_eq-sym name q, is, at_name) refl
    by_test false is = rw (bytes_eq-sym name q, is) (last (f q))

-- one more name at the end
pub number_in-push : (k : ℕ) (names : List (List ℕ)) (x q : List ℕ) → number_in k (names ++ x ∷ []) q ≡ option_or (number_in k names q) (cond (bytes_eq q x) (Some (k + length names)) None)
unfolding number_in
number_in-push k [] x q = rw add-zero refl
number_in-push k (y ∷ names) x q = by_test (number_in-push (k + 1) names x q) (bytes_eq q y)
  where
    by_test : number_in (k + 1) (names ++ x ∷ []) q ≡ option_or (number_in (k + 1) names q) (cond (bytes_eq q x) (Some ((k + 1) + length names)) None) → (b : Bool) → cond b (Some k) (number_in (k + 1) (names ++ x ∷ []) q) ≡ option_or (cond b (Some k) (number_in (k + 1) names q)) (cond (bytes_eq q x) (Some (k + length (y ∷ names))) None)
    by_test later true = refl
    by_test later false =
        let place : (k + 1) + length names ≡ k + length (y ∷ names) = omega arith in
        later ∙ ap (λ n. option_or (number_in (k + 1) names q) (cond (bytes_eq q x) (Some n) None)) place

-- a table that numbers some names numbers one more
pub IsNumbering-push : (k : ℕ) (names : List (List ℕ)) (old new : NumbersByName) (x : List ℕ) (n : ℕ) (added : Bool) → n ≡ k + length names → IsNumbering k names old → AddsName old new x n added → IsNumbering k (names ++ x ∷ []) new
IsNumbering-push k names old new x n added place known adds =
    λ q. adds.numbers q ∙ rw (known q, place) (sym (number_in-push k names x q))

-- names are known where they are among those numbered
pub is_some-number_in : (k : ℕ) (names : List (List ℕ)) (q : List ℕ) → is_some (number_in k names q) ≡ list_any (bytes_eq q) names
unfolding number_in
is_some-number_in k [] q = refl
is_some-number_in k (x ∷ names) q = by_test (is_some-number_in (k + 1) names q) (bytes_eq q x)
  where
    by_test : is_some (number_in (k + 1) names q) ≡ list_any (bytes_eq q) names → (b : Bool) → is_some (cond b (Some k) (number_in (k + 1) names q)) ≡ (b || list_any (bytes_eq q) names)
    by_test later true = refl
    by_test later false = later

-- a number is below the first one and the count
pub number_in-below : (k : ℕ) (names : List (List ℕ)) (q : List ℕ) (n : ℕ) → number_in k names q ≡ Some n → n < k + length names
unfolding number_in
number_in-below k [] q n e = absurd (none-some n e)
number_in-below k (x ∷ names) q n e = by_test (λ h. number_in-below (k + 1) names q n h) (bytes_eq q x) e
  where
    by_test : (number_in (k + 1) names q ≡ Some n → n < (k + 1) + length names) → (b : Bool) → cond b (Some k) (number_in (k + 1) names q) ≡ Some n → n < k + length (x ∷ names)
    by_test later true h = let same : k ≡ n = cc in omega arith
    by_test later false h = omega (arith, later h)

-- a table without names numbers none
pub IsNumbering-none : (k : ℕ) (places : NumbersByName) → ((name : List ℕ) → number_of_name places name ≡ None) → IsNumbering k [] places
unfolding number_in
IsNumbering-none k places empty = empty

-- a table of the first i things, with the next one more
pub IsNumbering-more : {A : Type 0} (name_of : A → List ℕ) (k : ℕ) (xs : List A) (i : ℕ) (x : A) (old new : NumbersByName) (n : ℕ) (added : Bool)
    → i < length xs → x ≡ get_or xs i x → n ≡ i + k → IsNumbering k (map name_of (take i xs)) old → AddsName old new (name_of x) n added → IsNumbering k (map name_of (take (i + 1) xs)) new
IsNumbering-more name_of k xs i x old new n added inside is number known adds =
    let item : take (i + 1) xs ≡ take i xs ++ x ∷ [] = take_more xs i x inside ∙ ap (λ y. take i xs ++ y ∷ []) (sym is) in
    let count : length (map name_of (take i xs)) ≡ i = length-map (take i xs) name_of ∙ length-take-le i xs (omega arith) in
    let names : map name_of (take (i + 1) xs) ≡ map name_of (take i xs) ++ name_of x ∷ [] = ap (map name_of) item ∙ map-append name_of (take i xs) (x ∷ []) in
    let place : n ≡ k + length (map name_of (take i xs)) = omega arith in
    rw names (IsNumbering-push k (map name_of (take i xs)) old new (name_of x) n added place known adds)

-- a name was new where none of those numbered has it
pub Adds-fresh : (k : ℕ) (names : List (List ℕ)) (old new : NumbersByName) (name : List ℕ) (n : ℕ) (added : Bool) → IsNumbering k names old → AddsName old new name n added → list_any (bytes_eq name) names ≡ not added
Adds-fresh k names old new name n added known adds =
    sym (is_some-number_in k names name) ∙ ap is_some (sym (known name)) ∙ twice (is_some (number_of_name old name)) ∙ ap not (sym adds.fresh)
  where
    twice : (b : Bool) → b ≡ not (not b)
    twice true = refl
    twice false = refl

-- a number is no less than the first one
pub number_in-above : (k : ℕ) (names : List (List ℕ)) (q : List ℕ) (n : ℕ) → number_in k names q ≡ Some n → k ≤ n
unfolding number_in
number_in-above k [] q n e = absurd (none-some n e)
number_in-above k (x ∷ names) q n e = by_test (λ h. number_in-above (k + 1) names q n h) (bytes_eq q x) e
  where
    by_test : (number_in (k + 1) names q ≡ Some n → k + 1 ≤ n) → (b : Bool) → cond b (Some k) (number_in (k + 1) names q) ≡ Some n → k ≤ n
    by_test later true h = let same : k ≡ n = cc in omega arith
    by_test later false h = omega (arith, later h)

-- what a table gives is at least the first number, and below it and the count
pub number_at-range : {A : Type 0} (name_of : A → List ℕ) (k : ℕ) (xs : List A) (places : NumbersByName) (q : List ℕ) (n : ℕ)
    → IsNumbering k (map name_of xs) places → Some n ≡ number_of_name places q → (k ≤ n) × (n < k + length xs)
number_at-range name_of k xs places q n known e =
    let is : number_in k (map name_of xs) q ≡ Some n = sym (known q) ∙ sym e in
    (number_in-above k (map name_of xs) q n is, omega (arith, number_in-below k (map name_of xs) q n is, length-map xs name_of))

-- names taken out of things
pub words-map : {A : Type 0} (name_of : A → (List ℕ)) (xs : List A) → words (map name_of xs) ≡ map (λ x. (name_of x)) xs
words-map name_of [] = refl
words-map name_of (x ∷ xs) = ap (λ rest. (name_of x) ∷ rest) (words-map name_of xs)
