use Rattle.std.proofs.Common.{◌≡◌, ℕ, take}
use Rattle.std.specs.BTreeSet.{contains}
use Rattle.std.specs.Ordering.{nat_cmp}
use Rattle.qp_chart.specs.StateTree.{has}
use Rattle.qp_model.specs.History.{lane_items}
use Rattle.qp_model.specs.OneOrder.{look_numbers}
use Rattle.qp_check_kernel.proofs.order_looks.looks.Given as goal

abbrev pub invariant-loop-r : goal.invariant-loop-r
invariant-loop-r l = (k : ℕ) → contains nat_cmp l.looks k ≡ has (look_numbers (lane_items (take l.r-index l.lane0))) k
