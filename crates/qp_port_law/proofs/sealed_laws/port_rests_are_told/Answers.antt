use Rattle.qp_port_law.proofs.RestLemmas.{port-rests as law}
use Rattle.qp_port_law.proofs.sealed_laws.port_rests_are_told.Goals as goal

pub returns : goal.returns
returns c = law
