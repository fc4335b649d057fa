use Rattle.qp_port_law.proofs.QkLemmas.{sealed-qk as law}
use Rattle.qp_port_law.proofs.sealed_laws.sealed_qk_runs_are_lawful.Goals as goal

pub returns : goal.returns
returns c = law
