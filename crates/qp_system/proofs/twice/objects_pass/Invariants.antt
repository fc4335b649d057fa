use Rattle.qp_system.specs.Between.{object_fault}
use Rattle.qp_system.proofs.PassLemmas.{Clear}
use Rattle.qp_system.proofs.twice.objects_pass.Given as goal

abbrev pub invariant-loop-i : goal.invariant-loop-i
invariant-loop-i l = Clear object_fault l.objects l.i
