use Rattle.qp_side.proofs.ClockLemmas.{rearms-tell as law}
use Rattle.qp_side.proofs.laws.rearms_tell.Goals as goal

pub returns : goal.returns
returns c = law
