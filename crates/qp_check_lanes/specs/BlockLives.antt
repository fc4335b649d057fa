-- The lives of a block, by the flags of its history.
use Rattle.std.specs.Prelude.{ℕ, Bool, false, not, ◌||◌, List, get_or}
use Rattle.std.specs.List.{list_all}
use Rattle.qp_chart.specs.StateTree.{has}
use Rattle.qp_model.specs.Lists.{all_below}
use Rattle.qp_model.specs.Lives.{Life}

-- no reference stands at these places
abbrev pub are_empty : List Bool → List ℕ → Bool
are_empty flags places = list_all (λ n. get_or flags n false) places

-- below the count, a reference stands at each place that isn't one of these
abbrev pub are_referred : List Bool → ℕ → List ℕ → Bool
are_referred flags count places = all_below count (λ n. has places n || not (get_or flags n false))

abbrev pub life_at : Bool → ℕ → Life
life_at out edge = record { out = out; edge = edge }
