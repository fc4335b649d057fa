-- Flags of references under an operation.
use Rattle.std.proofs.Common.{◌≡◌, ℕ, zero, suc, ◌+◌, ◌-◌, ◌≤◌, ◌==◌, nat_lt, Bool, true, false, ◌||◌, cond, List, [], ◌∷◌, ◌++◌, length, get_or, set, refl, ap, sym, ◌∙◌, arith, length-append, length-set}
use Rattle.std.proofs.lemmas.Bool.{and_parts}
use Rattle.std.proofs.lemmas.Bool.Decides.{nat_tests}
use Rattle.qp_chart.specs.StateTree.{has}
use Rattle.qp_model.specs.declared.bodies.Body.TheVariants.{Dec}
use Rattle.qp_model.specs.Lists.{without_one}
use Rattle.qp_model.specs.References.{Refs, refs_may, refs_next}
use Rattle.qp_model.specs.Lives.{is_empty}
use Rattle.qp_check_lanes.specs.Standing.{times_in, ReferencesStand}

-- a number stands in a list where it has places there
pub has-places : (k : ℕ) (xs : List ℕ) → has xs k ≡ nat_lt 0 (times_in k xs)
has-places k [] = refl
has-places k (x ∷ xs) = go (x == k) (has-places k xs)
  where
    go : (b : Bool) → has xs k ≡ nat_lt 0 (times_in k xs) → (b || has xs k) ≡ nat_lt 0 (cond b (suc (times_in k xs)) (times_in k xs))
    go true e = grind (arith, nat_tests)
    go false e = e

flag-places : (b : Bool) → nat_lt 0 (cond b 1 0) ≡ b
flag-places true = refl
flag-places false = refl

pub has-flag : (s : Refs) (flags : List Bool) (standing : ℕ) → ReferencesStand s flags standing → (k : ℕ) → has s.names k ≡ get_or flags k false
has-flag s flags standing h k = has-places k s.names ∙ ap (nat_lt 0) (h.each k) ∙ flag-places (get_or flags k false)

-- taking out one place
pub places-without : (k : ℕ) (xs : List ℕ) → has xs k ≡ true → times_in k xs ≡ suc (times_in k (without_one k xs))
places-without k [] h = cc
places-without k (x ∷ xs) h = go (x == k) refl h (places-without k xs)
  where
    go : (b : Bool) → (x == k) ≡ b → (b || has xs k) ≡ true → (has xs k ≡ true → times_in k xs ≡ suc (times_in k (without_one k xs))) → cond b (suc (times_in k xs)) (times_in k xs) ≡ suc (times_in k (cond b xs (x ∷ without_one k xs)))
    go true e h later = refl
    go false e h later = rw e (later h)

pub places-other : (j k : ℕ) (xs : List ℕ) → (j == k) ≡ false → times_in j (without_one k xs) ≡ times_in j xs
places-other j k [] ne = refl
places-other j k (x ∷ xs) ne = go (x == k) refl (places-other j k xs ne)
  where
    go : (b : Bool) → (x == k) ≡ b → times_in j (without_one k xs) ≡ times_in j xs → times_in j (cond b xs (x ∷ without_one k xs)) ≡ cond (x == j) (suc (times_in j xs)) (times_in j xs)
    go true e later = let no : (x == j) ≡ false = grind (arith, nat_tests) in rw no refl
    go false e later = ap (λ n. cond (x == j) (suc n) n) later

pub length-without : (k : ℕ) (xs : List ℕ) → has xs k ≡ true → length xs ≡ suc (length (without_one k xs))
length-without k [] h = cc
length-without k (x ∷ xs) h = go (x == k) h (length-without k xs)
  where
    go : (b : Bool) → (b || has xs k) ≡ true → (has xs k ≡ true → length xs ≡ suc (length (without_one k xs))) → suc (length xs) ≡ suc (length (cond b xs (x ∷ without_one k xs)))
    go true h later = refl
    go false h later = ap suc (later h)

-- a flag more
get_or-last : (flags : List Bool) (b : Bool) (k : ℕ) → get_or (flags ++ b ∷ []) k false ≡ cond (k == length flags) b (get_or flags k false)
get_or-last [] b zero = refl
get_or-last [] b (suc k) = let no : (suc k == 0) ≡ false = grind (arith, nat_tests) in rw no refl
get_or-last (x ∷ xs) b zero = let no : (0 == suc (length xs)) ≡ false = grind (arith, nat_tests) in rw no refl
get_or-last (x ∷ xs) b (suc k) = get_or-last xs b k ∙ ap (λ t. cond t b (get_or xs k false)) (same k (length xs))
  where
    same : (m n : ℕ) → (m == n) ≡ (suc m == suc n)
    same m n = grind (arith, nat_tests)

get_or-beyond : (flags : List Bool) (k : ℕ) → length flags ≤ k → get_or flags k false ≡ false
get_or-beyond [] k le = refl
get_or-beyond (x ∷ xs) zero le = absurd (omega arith)
get_or-beyond (x ∷ xs) (suc k) le = get_or-beyond xs k (omega arith)

get_or-cleared : (flags : List Bool) (k j : ℕ) → get_or (set flags k false) j false ≡ cond (j == k) false (get_or flags j false)
get_or-cleared [] k j = go (j == k)
  where
    go : (b : Bool) → false ≡ cond b false false
    go true = refl
    go false = refl
get_or-cleared (x ∷ xs) zero zero = refl
get_or-cleared (x ∷ xs) zero (suc j) = let no : (suc j == 0) ≡ false = grind (arith, nat_tests) in rw no refl
get_or-cleared (x ∷ xs) (suc k) zero = let no : (0 == suc k) ≡ false = grind (arith, nat_tests) in rw no refl
get_or-cleared (x ∷ xs) (suc k) (suc j) = get_or-cleared xs k j ∙ ap (λ t. cond t false (get_or xs j false)) (same j k)
  where
    same : (m n : ℕ) → (m == n) ≡ (suc m == suc n)
    same m n = grind (arith, nat_tests)

module _ (s : Refs) (flags : List Bool) (standing : ℕ) (h : ReferencesStand s flags standing) where
  pub stands-dec : (p b d k : ℕ) → refs_may s (Dec p b d k) ≡ true → ReferencesStand (refs_next s (Dec p b d k)) (set flags k false ++ false ∷ []) (standing - 1)
  stands-dec p b d k may =
      let held : has s.names k ≡ true = (and_parts (d == s.count) (has s.names k) may).1 in
      record {
        counted = omega (arith, h.counted, length-append (set flags k false) (false ∷ []), length-set flags k false);
        total = omega (arith, h.total, length-without k s.names held);
        each = λ j. get_places held j (j == k) refl;
      }
    where
      flag : (j : ℕ) → get_or (set flags k false ++ false ∷ []) j false ≡ cond (j == k) false (get_or flags j false)
      flag j = get_or-last (set flags k false) false j ∙ last (j == length (set flags k false)) refl
        where
          last : (b : Bool) → (j == length (set flags k false)) ≡ b → cond b false (get_or (set flags k false) j false) ≡ cond (j == k) false (get_or flags j false)
          last true e =
              let le : length (set flags k false) ≤ j = grind (arith, nat_tests) in
              sym (get_or-beyond (set flags k false) j le) ∙ get_or-cleared flags k j
          last false e = get_or-cleared flags k j

      get_places : has s.names k ≡ true → (j : ℕ) → (same : Bool) → (j == k) ≡ same → times_in j (without_one k s.names) ≡ cond (get_or (set flags k false ++ false ∷ []) j false) 1 0
      get_places held j true e =
          let is : j ≡ k = grind (arith, nat_tests) in
          let at_k : times_in k s.names ≡ suc (times_in k (without_one k s.names)) = places-without k s.names held in
          let one : times_in k s.names ≡ 1 = h.each k ∙ ap (λ b. cond b 1 0) (sym (has-flag s flags standing h k) ∙ held) in
          let none : times_in k (without_one k s.names) ≡ 0 = omega arith in
          ap (λ i. times_in i (without_one k s.names)) is ∙ none ∙ sym (ap (λ b. cond b 1 0) (flag j ∙ ap (λ t. cond t false (get_or flags j false)) e))
      get_places held j false e =
          places-other j k s.names e ∙ h.each j ∙ sym (ap (λ b. cond b 1 0) (flag j ∙ ap (λ t. cond t false (get_or flags j false)) e))

pub is_empty-standing : (xs : List ℕ) (n : ℕ) → n ≡ length xs → (n == 0) ≡ is_empty xs
is_empty-standing [] n is = grind (arith, nat_tests)
is_empty-standing (x ∷ xs) n is = grind (arith, nat_tests)

-- a number stands no oftener than the list is long
pub places-within_length : (k : ℕ) (xs : List ℕ) → times_in k xs ≤ length xs
places-within_length k [] = omega arith
places-within_length k (x ∷ xs) = one (x == k) (places-within_length k xs)
  where
    one : (b : Bool) → times_in k xs ≤ length xs → cond b (suc (times_in k xs)) (times_in k xs) ≤ suc (length xs)
    one true h = omega arith
    one false h = omega arith
