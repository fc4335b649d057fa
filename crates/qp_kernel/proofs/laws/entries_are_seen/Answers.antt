use Rattle.qp_kernel.proofs.KernelLaws.{entry_is_seen as law}
use Rattle.qp_kernel.proofs.laws.entries_are_seen.Goals as goal

pub returns : goal.returns
returns c = law
