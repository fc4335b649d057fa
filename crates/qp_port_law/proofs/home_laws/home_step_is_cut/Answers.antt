use Rattle.qp_port_law.proofs.HomeLaws.{home_step_is_cut as law}
use Rattle.qp_port_law.proofs.home_laws.home_step_is_cut.Goals as goal

pub returns : goal.returns
returns c = law
