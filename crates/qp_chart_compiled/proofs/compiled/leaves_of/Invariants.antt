use Rattle.qp_chart_compiled.specs.Codes.{tasks_at}
use Rattle.qp_chart_compiled.proofs.LeafLemmas.{Leaves}
use Rattle.qp_chart_compiled.proofs.compiled.leaves_of.Given as goal

abbrev pub invariant-loop-leaf : goal.invariant-loop-leaf
invariant-loop-leaf l = Leaves l.chart l.width l.leaf (tasks_at l.chart l.initial.codes.items) (tasks_at l.chart l.codes.items) l.leaves.items
