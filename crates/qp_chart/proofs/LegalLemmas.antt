-- A chart without a fault has a legal tree.
use Rattle.std.proofs.Common.{◌≡◌, ℕ, zero, suc, ◌+◌, ◌-◌, ◌<◌, ◌≤◌, true, false, ◌⊎◌, inl, inr, List, [], ◌∷◌, length, map, get_or, Option, Some, None, refl, sym, ◌∙◌, ap, subst, arith}
use Rattle.std.specs.Option.{option_flatten, option_and_then}
use Rattle.std.specs.List.{slice_get}
use Rattle.std.proofs.lemmas.Bool.{not-false}
use Rattle.std.proofs.lemmas.Bool.Decides.{nat_tests}
use Rattle.std.proofs.lemmas.Option.{none-some, slice_get_past}
use Rattle.std.proofs.lemmas.List.{length-map}
use Rattle.qp_chart_names.specs.declared.raw.RawChart.{RawChart}
use Rattle.qp_chart_names.specs.declared.raw.RawState.{RawState}
use Rattle.qp_chart_names.specs.declared.raw.Names.{Names}
use Rattle.qp_chart.specs.declared.checked.State.{State}
use Rattle.qp_chart.specs.declared.checked.Chart.{Chart}
use Rattle.qp_chart_names.specs.Numbering.{number_in}
use Rattle.qp_chart_names.specs.RawNumbers.{state_number, state_names}
use Rattle.qp_chart_names.specs.Pairs.{Corresponds}
use Rattle.qp_chart.specs.StateTree.{state_at, parent_of, path_of, up, outer, is_below, IsTree}
use Rattle.qp_chart.specs.TreeLaws.{PathsThatEndAreTrees}
use Rattle.qp_chart.specs.Parents.{parent_number, parents_of, parent_in, path_in, up_in, is_looped, is_deep, is_below_in, loop_at, depth_at, tree_fault}
use Rattle.qp_chart_names.specs.Faults.{first_in}
use Rattle.qp_chart.specs.ChartFaults.{chart_fault, parts_fault, body_fault, frame_fault, state_fault, init_fault, is_astray}
use Rattle.qp_chart.specs.ChartOf.{IsChartOf, IsStateOf}
use Rattle.qp_chart_names.specs.RawNumbers.{Refers}
use Rattle.qp_chart.specs.LegalTree.{IsLegal}
use Rattle.qp_chart_names.proofs.NumberingLemmas.{number_in-above, number_in-below}
use Rattle.qp_chart.proofs.ParentsLemmas.{path_in-None}
use Rattle.qp_chart.proofs.TreeLemmas.{paths_that_end_are_trees}
use Rattle.qp_chart.proofs.ChartTree.{none-both, fault_if-None, first_in-None, IsInside, path-short}

-- two lists side by side
pub Corresponds-length : {A B : Type 0} (R : A → B → Type 0) (xs : List A) (ys : List B) → Corresponds R xs ys → length xs ≡ length ys
unfolding Corresponds
Corresponds-length R [] [] h = refl
Corresponds-length R [] (y ∷ ys) h = absurd h
Corresponds-length R (x ∷ xs) [] h = absurd h
Corresponds-length R (x ∷ xs) (y ∷ ys) h = ap suc (Corresponds-length R xs ys h.1)

Corresponds-at : {A B : Type 0} (R : A → B → Type 0) (xs : List A) (ys : List B) → Corresponds R xs ys → (i : ℕ) (y : B) → slice_get ys i ≡ Some y → (x : A) × (slice_get xs i ≡ Some x) × R x y
unfolding Corresponds
Corresponds-at R [] [] h i y e = absurd (none-some y e)
Corresponds-at R [] (z ∷ ys) h i y e = absurd h
Corresponds-at R (x ∷ xs) [] h i y e = absurd h
Corresponds-at R (x ∷ xs) (z ∷ ys) h zero y e = let same : z ≡ y = cc in (x, refl, subst (R x) same h.0)
Corresponds-at R (x ∷ xs) (z ∷ ys) h (suc i) y e = Corresponds-at R xs ys h.1 i y e

-- the parents of the checked states are those of the file
parents-same : (names : Names) (raw : RawChart) (xs : List RawState) (ys : List State) → Corresponds (IsStateOf names raw) xs ys → (i : ℕ)
    → option_and_then (λ (y : State). y.parent) (slice_get ys i) ≡ option_flatten (slice_get (map (λ (x : RawState). parent_number raw x) xs) i)
unfolding Corresponds
parents-same names raw [] [] h i = refl
parents-same names raw [] (y ∷ ys) h i = absurd h
parents-same names raw (x ∷ xs) [] h i = absurd h
parents-same names raw (x ∷ xs) (y ∷ ys) h zero = h.0.parent
parents-same names raw (x ∷ xs) (y ∷ ys) h (suc i) = parents-same names raw xs ys h.1 i

-- what the parents make of a path
path_of-in : (chart : Chart) (parents : List (Option ℕ)) → ((s : ℕ) → parent_of chart s ≡ parent_in parents s) → (n : ℕ) (o : Option ℕ) → path_of chart n o ≡ path_in parents n o
unfolding path_of path_in
path_of-in chart parents same zero o = refl
path_of-in chart parents same (suc n) None = refl
path_of-in chart parents same (suc n) (Some s) = ap (λ path. s ∷ path) (path_of-in chart parents same n (parent_of chart s) ∙ ap (path_in parents n) (same s))

-- a short path ends at the top
outer-ends : (chart : Chart) (n : ℕ) (o : Option ℕ) → length (path_of chart (suc n) o) ≤ n → outer chart n o ≡ None
unfolding path_of outer
outer-ends chart zero None h = refl
outer-ends chart zero (Some s) h = absurd (omega (arith, h))
outer-ends chart (suc n) None h = refl
outer-ends chart (suc n) (Some s) h = outer-ends chart n (parent_of chart s) (omega (arith, h))

-- numbers of names are inside
number-inside : (names : List (List ℕ)) (q : List ℕ) → IsInside (length names) (number_in 1 names q)
number-inside names q = by (number_in 1 names q) refl
  where
    by : (o : Option ℕ) → number_in 1 names q ≡ o → IsInside (length names) o
    by None e = tt
    by (Some n) e = (number_in-above 1 names q n e, omega (arith, number_in-below 1 names q n e))

parent-inside : (raw : RawChart) (x : RawState) → IsInside (length raw.state) (parent_number raw x)
parent-inside raw x = by x.parent
  where
    by : (o : Option (List ℕ)) → IsInside (length raw.state) (option_and_then (λ (name : (List ℕ)). state_number raw name) o)
    by None = tt
    by (Some name) = subst (λ n. IsInside n (state_number raw name)) (length-map raw.state (λ (s : RawState). s.name)) (number-inside (state_names raw.state) name)

flat-inside : (n : ℕ) (g : RawState → Option ℕ) → ((x : RawState) → IsInside n (g x)) → (xs : List RawState) (i : ℕ) → IsInside n (option_flatten (slice_get (map g xs) i))
flat-inside n g each [] i = tt
flat-inside n g each (x ∷ xs) zero = each x
flat-inside n g each (x ∷ xs) (suc i) = flat-inside n g each xs i

get_or-found : {A : Type 0} (xs : List A) (i : ℕ) (x : A) → slice_get xs i ≡ Some x → (i < length xs) × (get_or xs i x ≡ x)
get_or-found [] i x e = absurd (none-some x e)
get_or-found (y ∷ xs) zero x e = (omega arith, cc)
get_or-found (y ∷ xs) (suc i) x e = let rest = get_or-found xs i x e in (omega (arith, rest.0), rest.1)

module _ (names : Names) (raw : RawChart) (chart : Chart) (none : chart_fault names raw ≡ None) (made : IsChartOf names raw chart) where
  parents : List (Option ℕ)
  parents = parents_of raw

  count : length (parents_of raw) ≡ length raw.state
  count = length-map raw.state (λ (x : RawState). parent_number raw x)

  states : length raw.state ≡ length chart.state
  states = Corresponds-length (IsStateOf names raw) raw.state chart.state made.state

  same : (s : ℕ) → parent_of chart s ≡ parent_in (parents_of raw) s
  unfolding parent_of state_at
  same s = parents-same names raw raw.state chart.state made.state (s - 1)

  inside : (s : ℕ) → IsInside (length (parents_of raw)) (parent_in (parents_of raw) s)
  inside s = subst (λ n. IsInside n (parent_in (parents_of raw) s)) (sym count) (flat-inside (length raw.state) (λ (x : RawState). parent_number raw x) (parent-inside raw) raw.state (s - 1))

  parts_none : parts_fault names raw ≡ None
  unfolding chart_fault
  parts_none = (none-both _ _ (none-both _ _ none).1).0

  tree_none : tree_fault (parents_of raw) ≡ None
  unfolding parts_fault frame_fault
  tree_none =
      let frame = (none-both _ _ parts_none).0 in
      (none-both _ _ (none-both _ _ (none-both _ _ frame).1).1).0

  states_none : first_in (state_fault names raw) 1 raw.state ≡ None
  unfolding parts_fault body_fault
  states_none =
      let body = (none-both _ _ (none-both _ _ parts_none).1).0 in
      (none-both _ _ (none-both _ _ (none-both _ _ body).1).1).0

  unlooped : (s : ℕ) → 1 ≤ s → s ≤ length (parents_of raw) → is_looped (parents_of raw) s ≡ false
  unfolding tree_fault loop_at
  unlooped s low high =
      let place : 1 + (s - 1) ≡ s = omega arith in
      let at = first_in-None (loop_at (parents_of raw)) 1 (parents_of raw) (none-both _ _ tree_none).0 (s - 1) None (omega arith) in
      fault_if-None _ _ _ (subst (λ k. loop_at (parents_of raw) k (get_or (parents_of raw) (s - 1) None) ≡ None) place at)

  flat : (s : ℕ) → 1 ≤ s → s ≤ length (parents_of raw) → is_deep (parents_of raw) s ≡ false
  unfolding tree_fault depth_at
  flat s low high =
      let place : 1 + (s - 1) ≡ s = omega arith in
      let at = first_in-None (depth_at (parents_of raw)) 1 (parents_of raw) (none-both _ _ (none-both _ _ tree_none).1).0 (s - 1) None (omega arith) in
      fault_if-None _ _ _ (subst (λ k. depth_at (parents_of raw) k (get_or (parents_of raw) (s - 1) None) ≡ None) place at)

  some_state : 1 ≤ length (parents_of raw)
  some_state =
      let above = number_in-above 1 (state_names raw.state) raw.init chart.init made.init in
      let below = number_in-below 1 (state_names raw.state) raw.init chart.init made.init in
      omega (arith, above, below, count, length-map raw.state (λ (s : RawState). s.name))

  short : (s : ℕ) → length (path_in (parents_of raw) (suc (length (parents_of raw))) (Some s)) ≤ length (parents_of raw)
  unfolding path_in
  short zero =
      let first : length (path_in (parents_of raw) (suc (length (parents_of raw))) (Some 1)) ≤ length (parents_of raw) =
      path-short (parents_of raw) inside unlooped (Some 1) (omega arith, some_state) in first
  short (suc s) = by (within (suc s) (length (parents_of raw)))
    where
      within : (a b : ℕ) → (a ≤ b) ⊎ (b < a)
      within zero b = inl (omega arith)
      within (suc a) zero = inr (omega arith)
      within (suc a) (suc b) = step (within a b)
        where
          step : (a ≤ b) ⊎ (b < a) → (suc a ≤ suc b) ⊎ (suc b < suc a)
          step (inl h) = inl (omega (arith, h))
          step (inr h) = inr (omega (arith, h))

      by : (suc s ≤ length (parents_of raw)) ⊎ (length (parents_of raw) < suc s) → length (path_in (parents_of raw) (suc (length (parents_of raw))) (Some (suc s))) ≤ length (parents_of raw)
      by (inl h) = path-short (parents_of raw) inside unlooped (Some (suc s)) (omega arith, h)
      by (inr h) =
          let past : length (parents_of raw) ≤ suc s - 1 = omega (arith, h) in
          let top : parent_in (parents_of raw) (suc s) ≡ None = ap option_flatten (slice_get_past (parents_of raw) (suc s - 1) past) in
          rw (top, path_in-None (parents_of raw) (length (parents_of raw))) some_state

  total : length chart.state ≡ length (parents_of raw)
  total = sym states ∙ sym count

  pub tree : IsTree chart
  unfolding PathsThatEndAreTrees
  tree = paths_that_end_are_trees chart ends
    where
      ends : (s : ℕ) → outer chart (length chart.state) (Some s) ≡ None
      ends s =
          rw total
          (outer-ends chart (length (parents_of raw)) (Some s)
          (rw (path_of-in chart (parents_of raw) same (suc (length (parents_of raw))) (Some s)) (short s)))

  up-is : (s : ℕ) → up chart s ≡ up_in (parents_of raw) (Some s)
  unfolding up
  up-is s = rw total (path_of-in chart (parents_of raw) same (length (parents_of raw)) (Some s))

  pub shallow : (s : ℕ) → 1 ≤ s → s ≤ length chart.state → length (up chart s) ≤ 6
  shallow s low high =
      let level : is_deep (parents_of raw) s ≡ false = flat s low (omega (arith, high, total)) in
      rw (up-is s) (grind (arith, nat_tests, level))

  pub targets : (s t : ℕ) (state : State) → 1 ≤ s → state_at chart s ≡ Some state → state.init ≡ Some t → is_below chart t (Some s) ≡ true
  unfolding state_at is_below state_fault init_fault
  targets s t state low at init =
      let found = Corresponds-at (IsStateOf names raw) raw.state chart.state made.state (s - 1) state at in
      let x : RawState = found.0 in
      let there = get_or-found raw.state (s - 1) x found.1 in
      let place : 1 + (s - 1) ≡ s = omega arith in
      let fine = first_in-None (state_fault names raw) 1 raw.state states_none (s - 1) x there.0 in
      let fine_here : state_fault names raw s x ≡ None = subst (λ k. state_fault names raw k x ≡ None) place (subst (λ y. state_fault names raw (1 + (s - 1)) y ≡ None) there.1 fine) in
      let init_fine = (none-both _ _ (none-both _ _ (none-both _ _ fine_here).1).1).0 in
      rw (up-is t) (by x.init (subst (Refers (state_number raw) x.init) init found.2.init) init_fine)
    where
      by : (key : Option (List ℕ)) → Refers (state_number raw) key (Some t) → init_fault raw s key ≡ None → is_below_in (parents_of raw) t s ≡ true
      by None refers fine = absurd refers
      by (Some name) refers fine =
          let astray : is_astray raw s (state_number raw name) ≡ false = fault_if-None _ _ _ (none-both _ _ (none-both _ _ fine).1).0 in
          not-false _ (subst (λ o. is_astray raw s o ≡ false) refers astray)

-- what the check promises of the tree
pub IsLegal-from : (names : Names) (raw : RawChart) (chart : Chart) → chart_fault names raw ≡ None → IsChartOf names raw chart → IsLegal chart
IsLegal-from names raw chart none made = record { tree = tree names raw chart none made; shallow = shallow names raw chart none made; targets = targets names raw chart none made }
