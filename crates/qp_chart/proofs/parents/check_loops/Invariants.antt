use Rattle.qp_chart.specs.Parents.{loop_at}
use Rattle.qp_chart_names.proofs.FaultLemmas.{Passed}
use Rattle.qp_chart.proofs.parents.check_loops.Given as goal

abbrev pub invariant-loop-i : goal.invariant-loop-i
invariant-loop-i l = Passed (loop_at l.parents) l.parents l.i
