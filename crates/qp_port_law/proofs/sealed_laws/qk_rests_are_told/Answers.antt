use Rattle.qp_port_law.proofs.RestLemmas.{qk-rests as law}
use Rattle.qp_port_law.proofs.sealed_laws.qk_rests_are_told.Goals as goal

pub returns : goal.returns
returns c = law
