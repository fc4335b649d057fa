use Rattle.qp_port_law.proofs.PortLemmas.{sealed-port as law}
use Rattle.qp_port_law.proofs.sealed_laws.sealed_port_runs_are_lawful.Goals as goal

pub returns : goal.returns
returns c = law
