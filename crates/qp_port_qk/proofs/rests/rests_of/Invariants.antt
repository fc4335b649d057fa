use Rattle.qp_port_qk.specs.Resting.{KernelShows}
use Rattle.qp_port_qk.proofs.rests.rests_of.Given as goal

abbrev pub invariant-loop-d : goal.invariant-loop-d
invariant-loop-d l = KernelShows l.objects l.under_way l.rests.items
