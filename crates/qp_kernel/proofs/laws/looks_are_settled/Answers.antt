use Rattle.qp_kernel.proofs.KernelLaws.{looks_are_settled as law}
use Rattle.qp_kernel.proofs.laws.looks_are_settled.Goals as goal

pub returns : goal.returns
returns c = law
