use Rattle.qp_chart_compiled.specs.Codes.{tasks_at}
use Rattle.qp_chart_compiled.proofs.LeafLemmas.{Classes}
use Rattle.qp_chart_compiled.proofs.leaves.leaf_of.Given as goal

abbrev pub invariant-loop-rest : goal.invariant-loop-rest
invariant-loop-rest l = Classes l.chart l.width l.leaf l.rest (tasks_at l.chart l.initial.codes.items) (tasks_at l.chart l.codes.items) l.classes.items
