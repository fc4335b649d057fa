use Rattle.qp_port_law.proofs.HomeLaws.{home_starts as law}
use Rattle.qp_port_law.proofs.home_laws.home_starts.Goals as goal

pub returns : goal.returns
returns c = law
