use Rattle.std.proofs.Common.{◌≡◌, ◌-◌, ◌++◌, length}
use Rattle.qp_chart.specs.StateTree.{path_of, up}
use Rattle.qp_chart_tree.proofs.places.path_of.Given as goal

abbrev pub invariant-loop : goal.invariant-loop
invariant-loop l = l.path.items ++ path_of l.chart (length l.items - l.index) l.at ≡ up l.chart l.s
