use Rattle.qp_kernel.proofs.KernelLaws.{rest_is_added as law}
use Rattle.qp_kernel.proofs.laws.rests_are_added.Goals as goal

pub returns : goal.returns
returns c = law
