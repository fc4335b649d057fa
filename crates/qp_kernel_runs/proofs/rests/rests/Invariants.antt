use Rattle.qp_kernel_runs.specs.Resting.{ObjectsShow}
use Rattle.qp_kernel_runs.proofs.rests.rests.Given as goal

abbrev pub invariant-loop-d : goal.invariant-loop-d
invariant-loop-d l = ObjectsShow l.objects l.under_way l.rests.items
