-- Parents without a fault make a tree.
use Rattle.std.proofs.Common.{◌≡◌, ℕ, zero, suc, ◌+◌, ◌<◌, ◌≤◌, ◌==◌, Bool, true, false, ◌||◌, ◌⊎◌, inl, inr, eqb, List, [], ◌∷◌, length, get_or, Option, Some, None, refl, sym, ◌∙◌, arith}
use Rattle.std.specs.Option.{option_or}
use Rattle.std.specs.List.{list_any, IsDistinct, AllByRecursion}
use Rattle.std.proofs.lemmas.Bool.{false≢true, or_cases}
use Rattle.std.proofs.lemmas.Bool.Decides.{nat_tests}
use Rattle.std.proofs.lemmas.Option.{none-some}
use Rattle.std.proofs.lemmas.Map.Steps.{length-le_from_distinct_below}
use Rattle.qp_chart_names.specs.Faults.{Fault, fault_if, first_of, first_in}
use Rattle.qp_chart.specs.StateTree.{has}
use Rattle.qp_chart.specs.Parents.{parent_in, path_in, is_looped}
use Rattle.qp_chart_names.proofs.NumberingLemmas.{bool_cases}

-- no fault among several is none of them
pub none-both : (o : Option Fault) (os : List (Option Fault)) → first_of (o ∷ os) ≡ None → (o ≡ None) × (first_of os ≡ None)
unfolding first_of
none-both None os h = (refl, h)
none-both (Some f) os h = absurd (none-some f (sym h))

pub fault_if-None : (test : Bool) (code : ℕ) (path : _) → fault_if test code path ≡ None → test ≡ false
fault_if-None true code path h = absurd (none-some _ (sym h))
fault_if-None false code path h = refl

-- no fault in a list is none at each place
pub first_in-None : {A : Type 0} (f : ℕ → A → Option Fault) (k : ℕ) (xs : List A) → first_in f k xs ≡ None → (i : ℕ) (d : A) → i < length xs → f (k + i) (get_or xs i d) ≡ None
unfolding first_in
first_in-None f k [] h i d inside = absurd (omega (arith, inside))
first_in-None f k (x ∷ xs) h zero d inside = let place : k + 0 ≡ k = omega arith in rw place (left (f k x) (first_in f (k + 1) xs) h)
  where
    left : (o p : Option Fault) → option_or o p ≡ None → o ≡ None
    left None p e = refl
    left (Some g) p e = absurd (none-some g (sym e))
first_in-None f k (x ∷ xs) h (suc i) d inside =
    let place : k + suc i ≡ (k + 1) + i = omega arith in
    rw place (first_in-None f (k + 1) xs (right (f k x) (first_in f (k + 1) xs) h) i d (omega (arith, inside)))
  where
    right : (o p : Option Fault) → option_or o p ≡ None → p ≡ None
    right None p e = e
    right (Some g) p e = absurd (none-some g (sym e))

-- two tests of a list for a number
has-any : (xs : List ℕ) (x : ℕ) → has xs x ≡ list_any (eqb x) xs
has-any [] x = refl
has-any (y ∷ xs) x = by (y == x) (eqb x y) (grind (arith, nat_tests)) (has-any xs x)
  where
    by : (a b : Bool) → a ≡ b → has xs x ≡ list_any (eqb x) xs → (a || has xs x) ≡ (b || list_any (eqb x) xs)
    by a b e h = rw (e, h) refl

others : (xs : List ℕ) (x : ℕ) → list_any (eqb x) xs ≡ false → AllByRecursion (λ y. eqb x y ≡ false) xs
others [] x h = tt
others (y ∷ xs) x h = by (eqb x y) (list_any (eqb x) xs) h (others xs x)
  where
    by : (a b : Bool) → (a || b) ≡ false → (b ≡ false → AllByRecursion (λ z. eqb x z ≡ false) xs) → (a ≡ false) × AllByRecursion (λ z. eqb x z ≡ false) xs
    by true b e later = absurd (false≢true (sym e))
    by false b e later = (refl, later e)

-- a number of a state, or none
abbrev pub IsInside : ℕ → Option ℕ → Type 0
IsInside n None = Unit {0}
IsInside n (Some s) = (1 ≤ s) × (s ≤ n)

module _ (parents : List (Option ℕ)) (inside : (s : ℕ) → IsInside (length parents) (parent_in parents s)) where
  -- a longer path has what a shorter one has
  has-longer : (k n : ℕ) (o : Option ℕ) (x : ℕ) → k ≤ n → has (path_in parents k o) x ≡ true → has (path_in parents n o) x ≡ true
  unfolding path_in
  has-longer zero n o x le h = absurd (false≢true h)
  has-longer (suc k) zero o x le h = absurd (omega (arith, le))
  has-longer (suc k) (suc n) None x le h = absurd (false≢true h)
  has-longer (suc k) (suc n) (Some s) x le h = by (s == x) h (has-longer k n (parent_in parents s) x (omega (arith, le)))
    where
      by : (b : Bool) → (b || has (path_in parents k (parent_in parents s)) x) ≡ true
          → (has (path_in parents k (parent_in parents s)) x ≡ true → has (path_in parents n (parent_in parents s)) x ≡ true) → (b || has (path_in parents n (parent_in parents s)) x) ≡ true
      by true e later = refl
      by false e later = later e

  -- a path has numbers of states alone
  path-inside : (n : ℕ) (o : Option ℕ) → IsInside (length parents) o → (q : ℕ) → list_any (eqb q) (path_in parents n o) ≡ true → (1 ≤ q) × (q ≤ length parents)
  unfolding path_in
  path-inside zero o r q h = absurd (false≢true h)
  path-inside (suc n) None r q h = absurd (false≢true h)
  path-inside (suc n) (Some s) r q h = by (or_cases (eqb q s) _ h) (path-inside n (parent_in parents s) (inside s) q)
    where
      by : (eqb q s ≡ true) ⊎ (list_any (eqb q) (path_in parents n (parent_in parents s)) ≡ true) → (list_any (eqb q) (path_in parents n (parent_in parents s)) ≡ true → (1 ≤ q) × (q ≤ length parents)) → (1 ≤ q) × (q ≤ length parents)
      by (inl e) later = let same : q ≡ s = grind (arith, nat_tests) in rw same r
      by (inr e) later = later e

  module _ (unlooped : (s : ℕ) → 1 ≤ s → s ≤ length parents → is_looped parents s ≡ false) where
    -- no state comes twice on a path
    path-distinct : (n : ℕ) → n ≤ suc (length parents) → (o : Option ℕ) → IsInside (length parents) o → IsDistinct eqb (path_in parents n o)
    unfolding path_in IsDistinct
    path-distinct zero le o r = tt
    path-distinct (suc n) le None r = tt
    path-distinct (suc n) le (Some s) r = (
      others (path_in parents n (parent_in parents s)) s (sym (has-any _ s) ∙ away (bool_cases (has (path_in parents n (parent_in parents s)) s))),
      path-distinct n (omega (arith, le)) (parent_in parents s) (inside s),
    )
      where
        away : (has (path_in parents n (parent_in parents s)) s ≡ true) ⊎ (has (path_in parents n (parent_in parents s)) s ≡ false) → has (path_in parents n (parent_in parents s)) s ≡ false
        away (inr e) = e
        away (inl e) = absurd (false≢true (sym (unlooped s r.0 r.1) ∙ has-longer n (length parents) (parent_in parents s) s (omega (arith, le)) e))

    -- a path has at most as many states as there are
    pub path-short : (o : Option ℕ) → IsInside (length parents) o → length (path_in parents (suc (length parents)) o) ≤ length parents
    unfolding IsDistinct
    path-short o r =
        let path : List ℕ = path_in parents (suc (length parents)) o in
        let count : length (0 ∷ path) ≤ suc (length parents) =
        length-le_from_distinct_below (0 ∷ path) (suc (length parents))
        (others path 0 (nowhere (bool_cases (list_any (eqb 0) path))), path-distinct (suc (length parents)) (omega arith) o r) below in
        omega (arith, count)
      where
        nowhere : (list_any (eqb 0) (path_in parents (suc (length parents)) o) ≡ true) ⊎ (list_any (eqb 0) (path_in parents (suc (length parents)) o) ≡ false) → list_any (eqb 0) (path_in parents (suc (length parents)) o) ≡ false
        nowhere (inr e) = e
        nowhere (inl e) = absurd (omega (arith, path-inside (suc (length parents)) o r 0 e))

        below : (q : ℕ) → list_any (eqb q) (0 ∷ path_in parents (suc (length parents)) o) ≡ true → q < suc (length parents)
        below q h = by (or_cases (eqb q 0) _ h)
          where
            by : (eqb q 0 ≡ true) ⊎ (list_any (eqb q) (path_in parents (suc (length parents)) o) ≡ true) → q < suc (length parents)
            by (inl e) = let same : q ≡ 0 = grind (arith, nat_tests) in omega arith
            by (inr e) = omega (arith, path-inside (suc (length parents)) o r q e)
