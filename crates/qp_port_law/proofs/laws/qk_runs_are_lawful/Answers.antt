use Rattle.qp_port_law.proofs.QkLawful.{lawful as law}
use Rattle.qp_port_law.proofs.laws.qk_runs_are_lawful.Goals as goal

pub returns : goal.returns
returns c = law
