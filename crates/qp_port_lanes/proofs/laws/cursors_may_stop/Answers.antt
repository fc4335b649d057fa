use Rattle.qp_port_lanes.proofs.Standing.{may-stop}
use Rattle.qp_port_lanes.proofs.laws.cursors_may_stop.Goals as goal

pub returns : goal.returns
returns c = may-stop
