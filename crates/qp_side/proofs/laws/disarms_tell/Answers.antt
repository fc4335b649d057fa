use Rattle.qp_side.proofs.ClockLemmas.{disarms-tell as law}
use Rattle.qp_side.proofs.laws.disarms_tell.Goals as goal

pub returns : goal.returns
returns c = law
