use Rattle.qp_port_law.proofs.HomeLaws.{nil_is_told as law}
use Rattle.qp_port_law.proofs.home_laws.nil_is_told.Goals as goal

pub returns : goal.returns
returns c = law
