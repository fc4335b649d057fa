use Rattle.std.proofs.Common.{◌≡◌, ◌-◌, length}
use Rattle.qp_chart.specs.StateTree.{has, path_of, up}
use Rattle.qp_chart_tree.proofs.places.is_round.Given as goal

abbrev pub invariant-loop : goal.invariant-loop
invariant-loop l = has (path_of l.chart (length l.items - l.index) l.at) l.y ≡ has (up l.chart l.fn.x) l.y
