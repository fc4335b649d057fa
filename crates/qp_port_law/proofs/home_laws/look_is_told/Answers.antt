use Rattle.qp_port_law.proofs.HomeLaws.{look_is_told as law}
use Rattle.qp_port_law.proofs.home_laws.look_is_told.Goals as goal

pub returns : goal.returns
returns c = law
