-- Objects in ascending priority.
use Rattle.std.proofs.Common.{◌≡◌, ℕ, ◌<◌, ◌≤◌, ◌==◌, false, suc, List, [], ◌∷◌, length, map, get_or, arith}
use Rattle.std.specs.List.{AllByRecursion, IsDistinct}
use Rattle.std.specs.List.Sorted.{IsNonDecreasingBy, IsPermutation}
use Rattle.std.proofs.lemmas.List.Elements.{recursion_from_All, All-from_recursion}
use Rattle.std.proofs.lemmas.List.Sorted.{IsPermutation-map, All-permutation}
use Rattle.std.proofs.lemmas.Map.Keys.{IsDistinct-IsPermutation}
use Rattle.std.proofs.lemmas.Bool.Decides.{nat_tests}
use Rattle.qp_chart_names.specs.Pairs.{Corresponds}
use Rattle.qp_model.specs.declared.systems.ObjectDef.{ObjectDef}
use Rattle.qp_model.specs.Laws.{Ascend}
use Rattle.qp_system_tables.specs.declared.raw.RawObject.{RawObject}
use Rattle.qp_system.proofs.PairLemmas.{Corresponds-every}

-- the priorities of these objects
abbrev pub priorities : List RawObject → List ℕ
priorities objects = map (λ o. o.priority) objects

-- what isn't below, and differs, is above
apart-above : (n : ℕ) (os : List RawObject) → AllByRecursion (λ x. n ≤ x.priority) os → AllByRecursion (λ m. (n == m) ≡ false) (priorities os) → AllByRecursion (λ x. n < x.priority) os
apart-above n [] low apart = tt
apart-above n (x ∷ xs) low apart =
    let least : n ≤ x.priority = low.0 in
    let other : (n == x.priority) ≡ false = apart.0 in
    (grind (arith, nat_tests, least, other), apart-above n xs low.1 apart.1)

module _ (R : RawObject → ObjectDef → Type 0) (same : (o : RawObject) (d : ObjectDef) → R o d → d.priority ≡ o.priority) where
  -- objects that never fall and differ ascend
  rise : (os : List RawObject) (ds : List ObjectDef) → Corresponds R os ds → AllByRecursion (λ o. 0 < o.priority) os
      → ((i j : ℕ) (d : RawObject) → i ≤ j → j < length os → (get_or os i d).priority ≤ (get_or os j d).priority)
      → IsDistinct (λ m n. m == n) (priorities os) → Ascend ds
  unfolding Corresponds IsDistinct
  rise [] [] pairs some up apart = tt
  rise [] (d ∷ ds) pairs some up apart = absurd pairs
  rise (o ∷ os) [] pairs some up apart = absurd pairs
  rise (o ∷ os) (d ∷ ds) pairs some up apart =
      let same_here : d.priority ≡ o.priority = same o d pairs.0 in
      let low : AllByRecursion (λ x. o.priority ≤ x.priority) os = recursion_from_All (λ x. o.priority ≤ x.priority) os (λ k e inside. up 0 (suc k) e (omega arith) (omega (arith, inside))) in
      let above : AllByRecursion (λ x. o.priority < x.priority) os = apart-above o.priority os low apart.0 in
      let some_here : 0 < o.priority = some.0 in (
        omega (arith, same_here, some_here),
        Corresponds-every R (λ x. o.priority < x.priority) (λ e. d.priority < e.priority) (λ x e r h. let eq = same x e r in omega (arith, eq, same_here, h)) os ds pairs.1 above,
        rise os ds pairs.1 some.1 (λ i j e below inside. up (suc i) (suc j) e (omega (arith, below)) (omega (arith, inside))) apart.1,
      )

  -- objects that were sorted by priority, where priorities differ
  pub Ascend-sorted : (raws order : List RawObject) (ds : List ObjectDef) → IsPermutation raws order → IsNonDecreasingBy (λ o. o.priority) order
      → IsDistinct (λ m n. m == n) (priorities raws) → AllByRecursion (λ o. 0 < o.priority) raws → Corresponds R order ds → Ascend ds
  Ascend-sorted raws order ds moved up apart some pairs =
      rise order ds pairs
      (recursion_from_All (λ o. 0 < o.priority) order (All-permutation (λ o. 0 < o.priority) raws order moved (All-from_recursion (λ o. 0 < o.priority) raws some)))
      (λ i j d below inside. up i j d below inside)
      (IsDistinct-IsPermutation (λ m n. m == n) flips (priorities raws) (priorities order) (IsPermutation-map (λ o. o.priority) raws order moved) apart)
    where
      flips : (m n : ℕ) → (m == n) ≡ (n == m)
      flips m n = grind (arith, nat_tests)
