-- The tree of states: parents, paths, and which state is below which.
use Rattle.std.specs.Prelude.{◌≡◌, ℕ, zero, suc, ◌-◌, ◌==◌, Bool, true, not, ◌&&◌, List, [], ◌∷◌, length, slice_get}
use Rattle.std.specs.Prelude.{Some, None}
use Rattle.std.specs.List.{list_any}
use Rattle.std.specs.Option.{option_and_then}
use Rattle.std.specs.declared.option.Option.{Option}
use Rattle.qp_chart.specs.declared.checked.State.{State}
use Rattle.qp_chart.specs.declared.checked.Chart.{Chart}

-- the list has the number
abbrev pub has : List ℕ → ℕ → Bool
has xs x = list_any (λ y. y == x) xs

-- a state by its number, from 1
unfoldable pub state_at : Chart → ℕ → Option State
state_at chart s = slice_get chart.state (s - 1)

-- the parent of a state, or None where it stands at the top
unfoldable pub parent_of : Chart → ℕ → Option ℕ
unfolding state_at
parent_of chart s = option_and_then (λ x. x.parent) (state_at chart s)

-- the state, its parent, and so on outwards, at most n states; None is the top
unfoldable pub path_of : Chart → ℕ → Option ℕ → List ℕ
unfolding parent_of
path_of chart zero s = []
path_of chart (suc n) None = []
path_of chart (suc n) (Some s) = s ∷ path_of chart n (parent_of chart s)

-- the path of a state: itself, its parent, and so on outwards
unfoldable pub up : Chart → ℕ → List ℕ
unfolding path_of
up chart s = path_of chart (length chart.state) (Some s)

-- x is below y where y stands in the path of x and isn't x; every state is below the top
unfoldable pub is_below : Chart → ℕ → Option ℕ → Bool
unfolding up
is_below chart x None = true
is_below chart x (Some y) = has (up chart x) y && not (x == y)

-- no state is among its own ancestors: its path is itself and then the path of its parent
pub record IsTree (chart : Chart) : Type 0 where
  pub top : (s : ℕ) → parent_of chart s ≡ None → up chart s ≡ s ∷ []
  pub inner : (s p : ℕ) → parent_of chart s ≡ Some p → up chart s ≡ s ∷ up chart p

-- the state n places further out, or None beyond the top
unfoldable pub outer : Chart → ℕ → Option ℕ → Option ℕ
unfolding parent_of
outer chart zero s = s
outer chart (suc n) None = None
outer chart (suc n) (Some s) = outer chart n (parent_of chart s)
