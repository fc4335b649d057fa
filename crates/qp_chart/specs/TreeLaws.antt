-- What a tree of states promises, in the words of the subject.
use Rattle.std.specs.Prelude.{◌≡◌, ◌≢◌, ℕ, true, [], ◌∷◌, length, Some, None}
use Rattle.qp_chart.specs.declared.checked.Chart.{Chart}
use Rattle.qp_chart.specs.StateTree.{has, parent_of, up, outer, IsTree}
use Rattle.qp_chart.specs.MainState.{main_state, nearest, exited}

-- where each state's path reaches the top within as many places as there are states, no state is among its own ancestors
unfoldable pub PathsThatEndAreTrees : Type 0
unfolding outer
PathsThatEndAreTrees = (chart : Chart) → ((s : ℕ) → outer chart (length chart.state) (Some s) ≡ None) → IsTree chart

-- the main state of two states is the nearest one that their paths share
unfoldable pub MainStateIsNearest : Type 0
unfolding main_state nearest
MainStateIsNearest = (chart : Chart) → IsTree chart → (s t : ℕ) → s ≢ t → main_state chart s t ≡ nearest chart s t

-- from a state below the main state it is exited itself, and then what is exited from its parent; from the main state nothing is
pub record WalksOut (chart : Chart) (m : ℕ) : Type 0 where
  pub none : exited chart (Some m) m ≡ []
  pub next : (s p : ℕ) → parent_of chart s ≡ Some p → has (up chart s) m ≡ true → s ≢ m → exited chart (Some m) s ≡ s ∷ exited chart (Some m) p

unfoldable pub ExitsWalkOut : Type 0
ExitsWalkOut = (chart : Chart) → IsTree chart → (m : ℕ) → WalksOut chart m
