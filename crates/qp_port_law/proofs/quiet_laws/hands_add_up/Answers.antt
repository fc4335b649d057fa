use Rattle.qp_port_law.proofs.Resting.{hands_add_up as law}
use Rattle.qp_port_law.proofs.quiet_laws.hands_add_up.Goals as goal

pub returns : goal.returns
returns c = law
