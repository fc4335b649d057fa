use Rattle.qp_port_law.proofs.StartsLemmas.{homes-first as law}
use Rattle.qp_port_law.proofs.sealed_laws.homes_that_start_first.Goals as goal

pub returns : goal.returns
returns c = law
