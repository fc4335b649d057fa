use Rattle.qp_side.proofs.ClockLemmas.{arms-tell as law}
use Rattle.qp_side.proofs.laws.arms_tell.Goals as goal

pub returns : goal.returns
returns c = law
