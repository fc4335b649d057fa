use Rattle.qp_kernel.proofs.KernelLaws.{spill_ends_start as law}
use Rattle.qp_kernel.proofs.laws.spills_end_starts.Goals as goal

pub returns : goal.returns
returns c = law
