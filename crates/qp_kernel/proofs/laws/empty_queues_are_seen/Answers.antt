use Rattle.qp_kernel.proofs.KernelLaws.{empty_is_seen as law}
use Rattle.qp_kernel.proofs.laws.empty_queues_are_seen.Goals as goal

pub returns : goal.returns
returns c = law
