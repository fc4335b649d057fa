-- Which steps were told.
use Rattle.std.specs.Prelude.{◌≡◌, ℕ, zero, suc, ◌+◌, List, [], ◌∷◌, ◌++◌}

-- the numbers of so many steps behind the first n, the last one first
abbrev pub steps_behind : ℕ → ℕ → List ℕ
steps_behind n zero = []
steps_behind n (suc k) = (n + suc k) ∷ steps_behind n k

-- from the one count of steps to the other each was told, once and in its order
pub record TellsSteps (a b : ℕ) (old new : List ℕ) : Type 0 where
  pub k : ℕ
  pub counted : b ≡ a + k
  pub told : new ≡ steps_behind a k ++ old
