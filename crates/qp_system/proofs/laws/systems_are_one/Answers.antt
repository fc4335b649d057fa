use Rattle.qp_system.proofs.SystemOne.{systems_are_one as law}
use Rattle.qp_system.proofs.laws.systems_are_one.Goals as goal

pub returns : goal.returns
returns c = law
