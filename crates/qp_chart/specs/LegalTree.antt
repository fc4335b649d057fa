-- The states of a checked chart make a legal tree.
use Rattle.std.specs.Prelude.{◌≡◌, ℕ, ◌≤◌, true, length, Some}
use Rattle.qp_chart.specs.declared.checked.State.{State}
use Rattle.qp_chart.specs.declared.checked.Chart.{Chart}
use Rattle.qp_chart.specs.StateTree.{state_at, up, is_below, IsTree}

-- a tree whose paths have at most six states, and in which each initial target is properly below its state
pub record IsLegal (chart : Chart) : Type 0 where
  pub tree : IsTree chart
  pub shallow : (s : ℕ) → 1 ≤ s → s ≤ length chart.state → length (up chart s) ≤ 6
  pub targets : (s t : ℕ) (state : State) → 1 ≤ s → state_at chart s ≡ Some state → state.init ≡ Some t → is_below chart t (Some s) ≡ true
