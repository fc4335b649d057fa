use Rattle.qp_port_lanes.proofs.Standing.{new-stand}
use Rattle.qp_port_lanes.proofs.laws.new_cursors_stand.Goals as goal

pub returns : goal.returns
returns c = new-stand
