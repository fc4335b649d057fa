use Rattle.qp_kernel.proofs.KernelLaws.{look_is_added as law}
use Rattle.qp_kernel.proofs.laws.looks_are_added.Goals as goal

pub returns : goal.returns
returns c = law
