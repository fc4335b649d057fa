use Rattle.qp_port_law.proofs.HomeLaws.{home_start_fails as law}
use Rattle.qp_port_law.proofs.home_laws.home_start_fails.Goals as goal

pub returns : goal.returns
returns c = law
