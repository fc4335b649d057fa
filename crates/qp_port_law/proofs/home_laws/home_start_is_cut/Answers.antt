use Rattle.qp_port_law.proofs.HomeLaws.{home_start_is_cut as law}
use Rattle.qp_port_law.proofs.home_laws.home_start_is_cut.Goals as goal

pub returns : goal.returns
returns c = law
