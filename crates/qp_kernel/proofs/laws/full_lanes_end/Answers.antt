use Rattle.qp_kernel.proofs.KernelLaws.{full_lane_ends as law}
use Rattle.qp_kernel.proofs.laws.full_lanes_end.Goals as goal

pub returns : goal.returns
returns c = law
