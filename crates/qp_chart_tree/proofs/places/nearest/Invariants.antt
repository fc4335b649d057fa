use Rattle.std.proofs.Common.{◌≡◌, ◌-◌, length}
use Rattle.std.specs.List.{find}
use Rattle.qp_chart.specs.StateTree.{has, path_of, up}
use Rattle.qp_chart.specs.MainState.{nearest}
use Rattle.qp_chart_tree.proofs.places.nearest.Given as goal

abbrev pub invariant-loop : goal.invariant-loop
invariant-loop l = find (λ x. has (up l.chart l.t) x) (path_of l.chart (length l.items - l.index) l.at) ≡ nearest l.chart l.fn.s l.t
