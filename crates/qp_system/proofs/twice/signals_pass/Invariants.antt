use Rattle.qp_system.specs.Between.{signal_fault}
use Rattle.qp_system.proofs.PassLemmas.{Clear}
use Rattle.qp_system.proofs.twice.signals_pass.Given as goal

abbrev pub invariant-loop-i : goal.invariant-loop-i
invariant-loop-i l = Clear signal_fault l.signals l.i
