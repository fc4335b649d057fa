use Rattle.qp_port_lanes.proofs.Standing.{stay}
use Rattle.qp_port_lanes.proofs.laws.cursors_stay.Goals as goal

pub returns : goal.returns
returns c = stay
