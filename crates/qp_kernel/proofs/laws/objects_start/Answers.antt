use Rattle.qp_kernel.proofs.KernelLaws.{object_starts as law}
use Rattle.qp_kernel.proofs.laws.objects_start.Goals as goal

pub returns : goal.returns
returns c = law
