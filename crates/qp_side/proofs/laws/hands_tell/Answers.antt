use Rattle.qp_side.proofs.StopLemmas.{hands as law}
use Rattle.qp_side.proofs.laws.hands_tell.Goals as goal

pub returns : goal.returns
returns c = law
