use Rattle.qp_kernel.proofs.KernelLaws.{assertion_ends_start as law}
use Rattle.qp_kernel.proofs.laws.assertions_end_starts.Goals as goal

pub returns : goal.returns
returns c = law
