use Rattle.qp_port_law.proofs.HomeLaws.{own_rises as law}
use Rattle.qp_port_law.proofs.home_laws.own_rises.Goals as goal

pub returns : goal.returns
returns c = law
