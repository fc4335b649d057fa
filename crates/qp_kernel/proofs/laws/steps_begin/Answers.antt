use Rattle.qp_kernel.proofs.KernelLaws.{step_begins as law}
use Rattle.qp_kernel.proofs.laws.steps_begin.Goals as goal

pub returns : goal.returns
returns c = law
