use Rattle.qp_kernel.proofs.KernelLaws.{runs_are_lawful as law}
use Rattle.qp_kernel.proofs.laws.runs_are_lawful.Goals as goal

pub returns : goal.returns
returns c = law
