use Rattle.qp_system.specs.Between.{chart_name_fault}
use Rattle.qp_system.proofs.PassLemmas.{Clear}
use Rattle.qp_system.proofs.twice.charts_pass.Given as goal

abbrev pub invariant-loop-i : goal.invariant-loop-i
invariant-loop-i l = Clear chart_name_fault l.charts l.i
