use Rattle.qp_kernel.proofs.KernelLaws.{spill_ends_step as law}
use Rattle.qp_kernel.proofs.laws.spills_end_steps.Goals as goal

pub returns : goal.returns
returns c = law
