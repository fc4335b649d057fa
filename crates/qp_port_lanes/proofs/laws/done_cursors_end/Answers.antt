use Rattle.qp_port_lanes.proofs.Standing.{done-end}
use Rattle.qp_port_lanes.proofs.laws.done_cursors_end.Goals as goal

pub returns : goal.returns
returns c = done-end
