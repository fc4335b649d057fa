use Rattle.qp_port_law.proofs.StartsLemmas.{zero-first as law}
use Rattle.qp_port_law.proofs.sealed_laws.zero_that_starts_first.Goals as goal

pub returns : goal.returns
returns c = law
