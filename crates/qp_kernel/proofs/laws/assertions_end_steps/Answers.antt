use Rattle.qp_kernel.proofs.KernelLaws.{assertion_ends_step as law}
use Rattle.qp_kernel.proofs.laws.assertions_end_steps.Goals as goal

pub returns : goal.returns
returns c = law
