-- Counts of references under an operation, and references that are compared with others.
use Rattle.std.proofs.Common.{◌≡◌, ℕ, zero, suc, ◌-◌, ◌≤◌, ◌<◌, ◌==◌, nat_lt, Bool, true, false, ◌&&◌, ◌||◌, cond, List, [], ◌∷◌, length, get_or, set, refl, ap, sym, ◌∙◌, arith}
use Rattle.std.specs.List.{list_all}
use Rattle.std.proofs.lemmas.Bool.{and_from, and_right, lt-ltb, or_right}
use Rattle.std.proofs.lemmas.Bool.Decides.{nat_tests}
use Rattle.qp_chart.specs.StateTree.{has}
use Rattle.qp_model.specs.End.{same_numbers}
use Rattle.qp_model.specs.Lists.{without_one}
use Rattle.qp_check_lanes.specs.Standing.{times_in}
use Rattle.qp_check_ends.specs.Resting.{AreNamesCounted}
use Rattle.qp_check_lanes.proofs.StandingLemmas.{has-places, places-without, places-other, length-without, places-within_length}

-- a count that isn't none has a place
pub inside-counts : (xs : List ℕ) (k : ℕ) → 0 < get_or xs k 0 → k < length xs
inside-counts [] k lt = absurd (omega arith)
inside-counts (x ∷ xs) zero lt = omega arith
inside-counts (x ∷ xs) (suc k) lt = let h = inside-counts xs k lt in omega arith

pub get-any : (xs : List ℕ) (k d : ℕ) → k < length xs → get_or xs k d ≡ get_or xs k 0
get-any [] k d lt = absurd (omega arith)
get-any (x ∷ xs) zero d lt = refl
get-any (x ∷ xs) (suc k) d lt = get-any xs k d (omega arith)

get-set : (xs : List ℕ) (k j v : ℕ) → k < length xs → get_or (set xs k v) j 0 ≡ cond (j == k) v (get_or xs j 0)
get-set [] k j v lt = absurd (omega arith)
get-set (x ∷ xs) zero zero v lt = refl
get-set (x ∷ xs) zero (suc j) v lt = let no : (suc j == 0) ≡ false = grind (arith, nat_tests) in rw no refl
get-set (x ∷ xs) (suc k) zero v lt = let no : (0 == suc k) ≡ false = grind (arith, nat_tests) in rw no refl
get-set (x ∷ xs) (suc k) (suc j) v lt = get-set xs k j v (omega arith) ∙ ap (λ t. cond t v (get_or xs j 0)) (same j k)
  where
    same : (m n : ℕ) → (m == n) ≡ (suc m == suc n)
    same m n = grind (arith, nat_tests)

without-absent : (k : ℕ) (xs : List ℕ) → has xs k ≡ false → without_one k xs ≡ xs
without-absent k [] h = refl
without-absent k (x ∷ xs) h = go (x == k) h (without-absent k xs)
  where
    go : (b : Bool) → (b || has xs k) ≡ false → (has xs k ≡ false → without_one k xs ≡ xs) → cond b xs (x ∷ without_one k xs) ≡ x ∷ xs
    go true h later = cc
    go false h later = ap (λ ys. x ∷ ys) (later h)

above-none : (n : ℕ) → nat_lt 0 n ≡ true → 0 < n
above-none n h = grind (arith, nat_tests)

none-not : (n : ℕ) → n ≡ 0 → nat_lt 0 n ≡ false
none-not n h = grind (arith, nat_tests)

module _ (names counts : List ℕ) (many : ℕ) (h : AreNamesCounted names counts many) where
  pub has-counted : (k : ℕ) → has names k ≡ nat_lt 0 (get_or counts k 0)
  has-counted k = has-places k names ∙ ap (nat_lt 0) (h.each k)

  pub count-le : (k : ℕ) → get_or counts k 0 ≤ many
  count-le k = omega (arith, places-within_length k names, h.each k, h.total)

  pub counted-remove : (k : ℕ) → 0 < get_or counts k 0 → (v m : ℕ) → v ≡ get_or counts k 0 - 1 → m ≡ many - 1 → AreNamesCounted (without_one k names) (set counts k v) m
  counted-remove k some v m is less = record { total = omega (arith, h.total, less, length-without k names held); each = λ j. each j (j == k) refl }
    where
      held : has names k ≡ true
      held = has-counted k ∙ lt-ltb 0 (get_or counts k 0) some

      inside : k < length counts
      inside = inside-counts counts k some

      each : (j : ℕ) → (b : Bool) → (j == k) ≡ b → times_in j (without_one k names) ≡ get_or (set counts k v) j 0
      each j true e =
          let at : j ≡ k = grind (arith, nat_tests) in
          let was : times_in k names ≡ get_or counts k 0 = h.each k in
          let fewer : times_in k names ≡ suc (times_in k (without_one k names)) = places-without k names held in
          let here : times_in j (without_one k names) ≡ times_in k (without_one k names) = ap (λ i. times_in i (without_one k names)) at in
          let last : times_in j (without_one k names) ≡ v = omega arith in
          rw (get-set counts k j v inside, e) last
      each j false e = rw (get-set counts k j v inside, e) (places-other j k names e ∙ h.each j)

  pub counted-keep : (k : ℕ) → get_or counts k 0 ≡ 0 → AreNamesCounted (without_one k names) counts many
  counted-keep k none = rw (without-absent k names (has-counted k ∙ none-not (get_or counts k 0) none)) h

  all-counted : (others : List ℕ) → list_all (λ k. nat_lt 0 (get_or counts k 0)) others ≡ list_all (λ k. has names k) others
  all-counted [] = refl
  all-counted (x ∷ xs) = rw (has-counted x, all-counted xs) refl

  pub same-not-all : (others : List ℕ) → list_all (λ k. nat_lt 0 (get_or counts k 0)) others ≡ false → false ≡ same_numbers names others
  same-not-all others fails = rw (sym (all-counted others) ∙ fails) (sym (go ((length names == length others) && list_all (λ x. has others x) names)))
    where
      go : (b : Bool) → (b && false) ≡ false
      go true = refl
      go false = refl

  pub same-as : (others : List ℕ) → many ≡ length others → list_all (λ k. nat_lt 0 (get_or counts k 0)) others ≡ true → (b : Bool) → b ≡ list_all (λ x. has others x) names → b ≡ same_numbers names others
  same-as others long all b is =
      let total : many ≡ length names = h.total in
      let same : (length names == length others) ≡ true = grind (arith, nat_tests) in
      is ∙ sym (rw (same, sym (all-counted others) ∙ all) (go (list_all (λ x. has others x) names)))
    where
      go : (c : Bool) → (c && true) ≡ c
      go true = refl
      go false = refl

-- a test of each number that stands in a list
all-of : (p : ℕ → Bool) (xs : List ℕ) → ((k : ℕ) → has xs k ≡ true → p k ≡ true) → list_all p xs ≡ true
all-of p [] h = refl
all-of p (x ∷ xs) h =
    let self : (x == x) ≡ true = grind (arith, nat_tests) in
    let first : ((x == x) || has xs x) ≡ true = rw self refl in
    and_from _ _ (h x first) (all-of p xs (λ k held. h k (or_right (x == k) (has xs k) held)))

not-all-of : (p : ℕ → Bool) (xs : List ℕ) (k : ℕ) → has xs k ≡ true → p k ≡ false → list_all p xs ≡ false
not-all-of p [] k held fails = cc
not-all-of p (x ∷ xs) k held fails = go (x == k) refl held (not-all-of p xs k)
  where
    go : (b : Bool) → (x == k) ≡ b → (b || has xs k) ≡ true → (has xs k ≡ true → p k ≡ false → list_all p xs ≡ false) → (p x && list_all p xs) ≡ false
    go true e held later = let at : x ≡ k = grind (arith, nat_tests) in rw (at, fails) refl
    go false e held later = and_right (p x) _ (later held fails)

-- each reference that stands is one of the others, which are marked
module _ (names counts : List ℕ) (many : ℕ) (h : AreNamesCounted names counts many) (marks : List Bool) (others : List ℕ) (marked : (k : ℕ) → k < length counts → get_or marks k false ≡ has others k) where
  pub only-marked : ((k : ℕ) → k < length counts → 0 < get_or counts k 0 → get_or marks k false ≡ true) → true ≡ list_all (λ x. has others x) names
  only-marked each = sym (all-of (λ x. has others x) names test)
    where
      test : (k : ℕ) → has names k ≡ true → has others k ≡ true
      test k held =
          let some : 0 < get_or counts k 0 = above-none (get_or counts k 0) (sym (has-counted names counts many h k) ∙ held) in
          let inside = inside-counts counts k some in
          sym (marked k inside) ∙ each k inside some

  pub not-marked : (k : ℕ) → 0 < get_or counts k 0 → get_or marks k false ≡ false → false ≡ list_all (λ x. has others x) names
  not-marked k some fails =
      sym (not-all-of (λ x. has others x) names k
      (has-counted names counts many h k ∙ (lt-ltb 0 (get_or counts k 0) some))
      (sym (marked k (inside-counts counts k some)) ∙ fails))
