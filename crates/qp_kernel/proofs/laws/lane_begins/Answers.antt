use Rattle.qp_kernel.proofs.KernelLaws.{lane_begins as law}
use Rattle.qp_kernel.proofs.laws.lane_begins.Goals as goal

pub returns : goal.returns
returns c = law
