-- The parents of a chart's states, and the paths that they make.
use Rattle.std.specs.Prelude.{ℕ, zero, suc, ◌-◌, ◌==◌, Bool, ◌&&◌, not, List, [], ◌∷◌, length, map, slice_get, nat_lt, Some, None}
use Rattle.std.specs.declared.option.Option.{Option}
use Rattle.std.specs.Option.{option_and_then, option_flatten}
use Rattle.qp_chart_names.specs.declared.place.Part.TheVariants.{Key, Pos}
use Rattle.qp_chart_names.specs.Keys.{STATE, PARENT}
use Rattle.qp_chart_names.specs.Codes.{PARENT_LOOP, TOO_DEEP}
use Rattle.qp_chart_names.specs.declared.raw.RawChart.{RawChart}
use Rattle.qp_chart_names.specs.declared.raw.RawState.{RawState}
use Rattle.qp_chart_names.specs.Faults.{Fault, fault_if, first_of, first_in}
use Rattle.qp_chart.specs.StateTree.{has}
use Rattle.qp_chart_names.specs.RawNumbers.{state_number}

-- the number of the state round this one
abbrev pub parent_number : RawChart → RawState → Option ℕ
parent_number chart state = option_and_then (λ name. state_number chart name) state.parent

-- the parents of the states, in order
abbrev pub parents_of : RawChart → List (Option ℕ)
parents_of chart = map (λ state. parent_number chart state) chart.state

-- the parent of a state by its number, from 1
abbrev pub parent_in : List (Option ℕ) → ℕ → Option ℕ
parent_in parents s = option_flatten (slice_get parents (s - 1))

-- the state, its parent, and so on outwards, at most n states; None is the top
unfoldable pub path_in : List (Option ℕ) → ℕ → Option ℕ → List ℕ
path_in parents zero s = []
path_in parents (suc n) None = []
path_in parents (suc n) (Some s) = s ∷ path_in parents n (parent_in parents s)

-- the path of a state
abbrev pub up_in : List (Option ℕ) → Option ℕ → List ℕ
up_in parents s = path_in parents (length parents) s

-- the state is among its own ancestors
abbrev pub is_looped : List (Option ℕ) → ℕ → Bool
is_looped parents s = has (up_in parents (parent_in parents s)) s

-- the path of the state has more than six states
abbrev pub is_deep : List (Option ℕ) → ℕ → Bool
is_deep parents s = nat_lt 6 (length (up_in parents (Some s)))

-- the first state among its own ancestors
unfoldable pub loop_at : List (Option ℕ) → ℕ → Option ℕ → Option Fault
loop_at parents k parent = fault_if (is_looped parents k) PARENT_LOOP (Key STATE ∷ Pos k ∷ Key PARENT ∷ [])

-- a state with too long a path
unfoldable pub depth_at : List (Option ℕ) → ℕ → Option ℕ → Option Fault
depth_at parents k parent = fault_if (is_deep parents k) TOO_DEEP (Key STATE ∷ Pos k ∷ [])

-- the first loop of the parents, and where there is none the first state that stands too deep
unfoldable pub tree_fault : List (Option ℕ) → Option Fault
tree_fault parents = first_of (first_in (loop_at parents) 1 parents ∷ first_in (depth_at parents) 1 parents ∷ [])

-- x is properly below y
abbrev pub is_below_in : List (Option ℕ) → ℕ → ℕ → Bool
is_below_in parents x y = has (up_in parents (Some x)) y && not (x == y)
