use Rattle.qp_port_law.proofs.HomeLaws.{unstarted_home_ends as law}
use Rattle.qp_port_law.proofs.home_laws.unstarted_home_ends.Goals as goal

pub returns : goal.returns
returns c = law
