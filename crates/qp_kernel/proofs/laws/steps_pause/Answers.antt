use Rattle.qp_kernel.proofs.KernelLaws.{step_pauses as law}
use Rattle.qp_kernel.proofs.laws.steps_pause.Goals as goal

pub returns : goal.returns
returns c = law
