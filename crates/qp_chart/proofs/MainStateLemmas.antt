-- What is exited and entered, state by state, and the main state as the nearest common one.
use Rattle.std.proofs.Common.{◌≡◌, ◌≢◌, ℕ, ◌==◌, Bool, true, false, not, ◌&&◌, ◌||◌, ◌⊎◌, inl, inr, List, [], ◌∷◌, refl, sym, ap, subst, Some, None, arith}
use Rattle.std.specs.List.{filter, find}
use Rattle.std.proofs.lemmas.Bool.Decides.{nat_tests}
use Rattle.qp_chart.specs.declared.checked.Chart.{Chart}
use Rattle.qp_chart.specs.StateTree.{has, parent_of, up, is_below, IsTree}
use Rattle.qp_chart.specs.MainState.{main_state, nearest, exited}
use Rattle.qp_chart.proofs.StateTreeLemmas.{parent_cases, walk, has-self, length-above, has-above}

-- all of the path is below the top
filter-all : {X : Type 0} (xs : List X) → filter (λ _. true) xs ≡ xs
filter-all [] = refl
filter-all (x ∷ xs) = ap (λ ys. x ∷ ys) (filter-all xs)

-- the whole path is exited where the main state is the top
pub exited-top : (chart : Chart) (s : ℕ) → exited chart None s ≡ up chart s
unfolding exited is_below
exited-top chart s = filter-all (up chart s)

module _ (chart : Chart) (tree : IsTree chart) where
  -- of two states on each other's paths neither is the other's inner one
  pub below-above : (s x : ℕ) → has (up chart s) x ≡ true → is_below chart x (Some s) ≡ false
  unfolding is_below
  below-above s x h = by_same (x == s) refl (has (up chart x) s) refl
    where
      by_same : (b : Bool) → (x == s) ≡ b → (c : Bool) → has (up chart x) s ≡ c → (c && not b) ≡ false
      by_same true is true has_it = refl
      by_same true is false has_it = refl
      by_same false is false has_it = refl
      by_same false is true has_it =
          let differ : x ≢ s = grind (arith, nat_tests) in
          let other : s ≢ x = λ e. differ (sym e) in
          let one = length-above chart tree s x h other in
          let two = length-above chart tree x s has_it differ in
          absurd (omega arith)

  -- nothing is exited from the main state on outwards
  pub exited-above : (m s : ℕ) → has (up chart m) s ≡ true → exited chart (Some m) s ≡ []
  unfolding exited
  exited-above m s = walk chart tree (λ s. has (up chart m) s ≡ true → exited chart (Some m) s ≡ []) at_top inside s
    where
      at_top : (s : ℕ) → parent_of chart s ≡ None → has (up chart m) s ≡ true → exited chart (Some m) s ≡ []
      at_top s e h = rw (tree.top s e, below-above m s h) refl

      inside : (s p : ℕ) → parent_of chart s ≡ Some p → (has (up chart m) p ≡ true → exited chart (Some m) p ≡ []) → has (up chart m) s ≡ true → exited chart (Some m) s ≡ []
      inside s p e later h =
          let above : has (up chart s) p ≡ true = rw (tree.inner s p e) (either (s == p) (has-self chart tree p)) in
          rw (tree.inner s p e, below-above m s h) (later (has-above chart tree m s p h above))
        where
          either : (b : Bool) → has (up chart p) p ≡ true → (b || has (up chart p) p) ≡ true
          either true h = refl
          either false h = h

  -- at the main state itself nothing is exited
  pub exited-self : (m : ℕ) → exited chart (Some m) m ≡ []
  exited-self m = exited-above m m (has-self chart tree m)

  -- a state below the main state is exited first, and then what is exited from its parent on
  pub exited-next : (m s p : ℕ) → parent_of chart s ≡ Some p → has (up chart s) m ≡ true → s ≢ m → exited chart (Some m) s ≡ s ∷ exited chart (Some m) p
  unfolding exited is_below
  exited-next m s p e h differ = rw (tree.inner s p e, below) refl
    where
      below : is_below chart s (Some m) ≡ true
      below = let not_same : (s == m) ≡ false = grind (arith, nat_tests) in rw (h, not_same) refl

  -- a state with another one on its path has a parent
  pub parent-inner : (s m : ℕ) → has (up chart s) m ≡ true → s ≢ m → (p : ℕ) × (parent_of chart s ≡ Some p) × (has (up chart p) m ≡ true)
  parent-inner s m h differ = by_parent (parent_cases (parent_of chart s))
    where
      by_parent : (parent_of chart s ≡ None) ⊎ ((p : ℕ) × (parent_of chart s ≡ Some p)) → (p : ℕ) × (parent_of chart s ≡ Some p) × (has (up chart p) m ≡ true)
      by_parent (inl e) =
          let alone : has (s ∷ []) m ≡ true = subst (λ path. has path m ≡ true) (tree.top s e) h in
          let same : s ≡ m = grind (arith, nat_tests) in
          absurd (differ same)
      by_parent (inr (p, e)) =
          let split : ((s == m) || has (up chart p) m) ≡ true = subst (λ path. has path m ≡ true) (tree.inner s p e) h in
          let not_same : (s == m) ≡ false = grind (arith, nat_tests) in
          (p, e, subst (λ b. (b || has (up chart p) m) ≡ true) not_same split)

  -- the nearest state is t where s is t or below it
  nearest-outer : (t s : ℕ) → has (up chart s) t ≡ true → nearest chart s t ≡ Some t
  unfolding nearest
  nearest-outer t s = walk chart tree (λ s. has (up chart s) t ≡ true → find (λ x. has (up chart t) x) (up chart s) ≡ Some t) at_top inside s
    where
      here : (s : ℕ) → s ≡ t → (rest : List ℕ) → find (λ x. has (up chart t) x) (s ∷ rest) ≡ Some t
      here s same rest = let mine : has (up chart t) s ≡ true = rw same (has-self chart tree t) in rw mine (ap Some same)

      at_top : (s : ℕ) → parent_of chart s ≡ None → has (up chart s) t ≡ true → find (λ x. has (up chart t) x) (up chart s) ≡ Some t
      at_top s e h =
          let alone : has (s ∷ []) t ≡ true = subst (λ path. has path t ≡ true) (tree.top s e) h in
          let same : s ≡ t = grind (arith, nat_tests) in
          rw (tree.top s e) (here s same [])

      inside : (s p : ℕ) → parent_of chart s ≡ Some p → (has (up chart p) t ≡ true → find (λ x. has (up chart t) x) (up chart p) ≡ Some t)
          → has (up chart s) t ≡ true → find (λ x. has (up chart t) x) (up chart s) ≡ Some t
      inside s p e later h = rw (tree.inner s p e) (by_same (s == t) refl)
        where
          by_same : (b : Bool) → (s == t) ≡ b → find (λ x. has (up chart t) x) (s ∷ up chart p) ≡ Some t
          by_same true is = here s (grind (arith, nat_tests)) (up chart p)
          by_same false is = by_path (has (up chart t) s) refl
            where
              differ : s ≢ t
              differ = grind (arith, nat_tests)

              by_path : (b : Bool) → has (up chart t) s ≡ b → find (λ x. has (up chart t) x) (s ∷ up chart p) ≡ Some t
              by_path false off =
                  let split : ((s == t) || has (up chart p) t) ≡ true = subst (λ path. has path t ≡ true) (tree.inner s p e) h in
                  let rest : has (up chart p) t ≡ true = subst (λ b. (b || has (up chart p) t) ≡ true) is split in
                  rw off (later rest)
              by_path true on =
                  let one = length-above chart tree s t h differ in
                  let two = length-above chart tree t s on (λ e. differ (sym e)) in
                  absurd (omega arith)

  -- the nearest state is s where t is below it
  nearest-inner : (s t : ℕ) → has (up chart t) s ≡ true → nearest chart s t ≡ Some s
  unfolding nearest
  nearest-inner s t h = by_parent (parent_cases (parent_of chart s))
    where
      by_parent : (parent_of chart s ≡ None) ⊎ ((p : ℕ) × (parent_of chart s ≡ Some p)) → find (λ x. has (up chart t) x) (up chart s) ≡ Some s
      by_parent (inl e) = rw (tree.top s e, h) refl
      by_parent (inr (p, e)) = rw (tree.inner s p e, h) refl

  -- the main state of two states is the nearest one that their paths share
  pub main_state-nearest : (s t : ℕ) → s ≢ t → main_state chart s t ≡ nearest chart s t
  unfolding main_state is_below
  main_state-nearest s t differ = by_inner (has (up chart t) s) refl (has (up chart s) t) refl
    where
      apart : (s == t) ≡ false
      apart = grind (arith, nat_tests)

      apart' : (t == s) ≡ false
      apart' = grind (arith, nat_tests)

      by_inner : (b : Bool) → has (up chart t) s ≡ b → (c : Bool) → has (up chart s) t ≡ c → main_state chart s t ≡ nearest chart s t
      by_inner true is c has_it = rw (apart, apart', is) (sym (nearest-inner s t is))
      by_inner false is true has_it = rw (apart, is, has_it) (sym (nearest-outer t s has_it))
      by_inner false is false has_it = rw (apart, is, has_it) refl
