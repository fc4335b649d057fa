use Rattle.qp_shared_ends.proofs.Ordering.{lanes-ordered as law}
use Rattle.qp_shared_ends.proofs.laws.logs_are_lanes.Goals as goal

pub returns : goal.returns
returns c = law
