-- Paths of a state tree.
use Rattle.std.proofs.Common.{◌≡◌, ◌≢◌, ℕ, ◌<◌, ◌==◌, Bool, true, false, ◌||◌, ◌⊎◌, inl, inr, List, [], ◌∷◌, ◌++◌, length, refl, sym, ◌∙◌, ap, subst, Option, Some, None, arith, length-append}
use Rattle.std.proofs.lemmas.Bool.Decides.{nat_tests}
use Rattle.qp_chart.specs.declared.checked.Chart.{Chart}
use Rattle.qp_chart.specs.StateTree.{has, parent_of, up, IsTree}

cons-head : {x y : ℕ} {xs ys : List ℕ} → x ∷ xs ≡ y ∷ ys → x ≡ y
cons-head e = cc

cons-tail : {x y : ℕ} {xs ys : List ℕ} → x ∷ xs ≡ y ∷ ys → xs ≡ ys
cons-tail e = cc

-- a parent, or none
pub parent_cases : (o : Option ℕ) → (o ≡ None) ⊎ ((p : ℕ) × (o ≡ Some p))
parent_cases None = inl refl
parent_cases (Some p) = inr (p, refl)

-- what a list has, each longer one that ends with it has
has-append : (xs ys : List ℕ) (y : ℕ) → has ys y ≡ true → has (xs ++ ys) y ≡ true
has-append [] ys y h = h
has-append (x ∷ xs) ys y h = either (x == y) (has-append xs ys y h)
  where
    either : (b : Bool) → has (xs ++ ys) y ≡ true → (b || has (xs ++ ys) y) ≡ true
    either true h = refl
    either false h = h

module _ (chart : Chart) (tree : IsTree chart) where
  -- what holds at the top and passes from each parent to its child holds of each state
  pub walk : (P : ℕ → Type 0) → ((s : ℕ) → parent_of chart s ≡ None → P s) → ((s p : ℕ) → parent_of chart s ≡ Some p → P p → P s) → (s : ℕ) → P s
  walk P at_top inside s = along (up chart s) s refl
    where
      along : (path : List ℕ) (s : ℕ) → up chart s ≡ path → P s
      along [] s is = by_parent (parent_cases (parent_of chart s))
        where
          by_parent : (parent_of chart s ≡ None) ⊎ ((p : ℕ) × (parent_of chart s ≡ Some p)) → P s
          by_parent (inl e) = at_top s e
          by_parent (inr (p, e)) = let wrong : s ∷ up chart p ≡ [] = sym (tree.inner s p e) ∙ is in absurd (cc)
      along (x ∷ path) s is = by_parent (λ p. along path p) (parent_cases (parent_of chart s))
        where
          by_parent : ((p : ℕ) → up chart p ≡ path → P p) → (parent_of chart s ≡ None) ⊎ ((p : ℕ) × (parent_of chart s ≡ Some p)) → P s
          by_parent later (inl e) = at_top s e
          by_parent later (inr (p, e)) = inside s p e (later p (cons-tail (sym (tree.inner s p e) ∙ is)))

  -- a state stands in its own path
  pub has-self : (s : ℕ) → has (up chart s) s ≡ true
  has-self s = by_parent (parent_cases (parent_of chart s))
    where
      by_parent : (parent_of chart s ≡ None) ⊎ ((p : ℕ) × (parent_of chart s ≡ Some p)) → has (up chart s) s ≡ true
      by_parent (inl e) = rw (tree.top s e) (grind (arith, nat_tests))
      by_parent (inr (p, e)) = rw (tree.inner s p e) (grind (arith, nat_tests))

  -- the path of a state ends with the path of each state on it
  pub up-above : (s x : ℕ) → has (up chart s) x ≡ true → (front : List ℕ) × (up chart s ≡ front ++ up chart x)
  up-above s x = walk (λ s. has (up chart s) x ≡ true → (front : List ℕ) × (up chart s ≡ front ++ up chart x)) at_top inside s
    where
      at_top : (s : ℕ) → parent_of chart s ≡ None → has (up chart s) x ≡ true → (front : List ℕ) × (up chart s ≡ front ++ up chart x)
      at_top s e h =
          let alone : has (s ∷ []) x ≡ true = subst (λ path. has path x ≡ true) (tree.top s e) h in
          let same : s ≡ x = grind (arith, nat_tests) in
          ([], rw same refl)

      inside : (s p : ℕ) → parent_of chart s ≡ Some p → (has (up chart p) x ≡ true → (front : List ℕ) × (up chart p ≡ front ++ up chart x))
          → has (up chart s) x ≡ true → (front : List ℕ) × (up chart s ≡ front ++ up chart x)
      inside s p e later h = by_first (s == x) refl
        where
          split : ((s == x) || has (up chart p) x) ≡ true
          split = subst (λ path. has path x ≡ true) (tree.inner s p e) h

          by_first : (b : Bool) → (s == x) ≡ b → (front : List ℕ) × (up chart s ≡ front ++ up chart x)
          by_first true is = let same : s ≡ x = grind (arith, nat_tests) in ([], rw same refl)
          by_first false is =
              let rest : has (up chart p) x ≡ true = subst (λ b. (b || has (up chart p) x) ≡ true) is split in
              let more = later rest in
              (s ∷ more.0, tree.inner s p e ∙ ap (λ path. s ∷ path) more.1)

  -- the path of a state further out is shorter
  pub length-above : (s x : ℕ) → has (up chart s) x ≡ true → s ≢ x → length (up chart x) < length (up chart s)
  length-above s x h differ = by_front (up-above s x h).0 (up-above s x h).1
    where
      starts : (s : ℕ) → (rest : List ℕ) × (up chart s ≡ s ∷ rest)
      starts s = by_parent (parent_cases (parent_of chart s))
        where
          by_parent : (parent_of chart s ≡ None) ⊎ ((p : ℕ) × (parent_of chart s ≡ Some p)) → (rest : List ℕ) × (up chart s ≡ s ∷ rest)
          by_parent (inl e) = ([], tree.top s e)
          by_parent (inr (p, e)) = (up chart p, tree.inner s p e)

      by_front : (front : List ℕ) → up chart s ≡ front ++ up chart x → length (up chart x) < length (up chart s)
      by_front [] is =
          let first = starts s in
          let second = starts x in
          absurd (differ (cons-head (sym first.1 ∙ is ∙ second.1)))
      by_front (y ∷ front) is = omega (arith, ap length is, length-append (y ∷ front) (up chart x))

  -- the path of a state further out holds what is further out still
  pub has-above : (s x y : ℕ) → has (up chart s) x ≡ true → has (up chart x) y ≡ true → has (up chart s) y ≡ true
  has-above s x y h k = let one = up-above s x h in rw one.1 (has-append one.0 (up chart x) y k)
