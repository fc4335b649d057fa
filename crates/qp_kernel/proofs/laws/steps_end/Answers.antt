use Rattle.qp_kernel.proofs.KernelLaws.{step_ends as law}
use Rattle.qp_kernel.proofs.laws.steps_end.Goals as goal

pub returns : goal.returns
returns c = law
