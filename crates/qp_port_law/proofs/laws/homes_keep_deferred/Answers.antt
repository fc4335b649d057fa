use Rattle.qp_port_law.proofs.HomesKept.{homes-kept as law}
use Rattle.qp_port_law.proofs.laws.homes_keep_deferred.Goals as goal

pub returns : goal.returns
returns c = law
