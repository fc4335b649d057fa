use Rattle.qp_side.proofs.StopLemmas.{finds as law}
use Rattle.qp_side.proofs.laws.finds_tell.Goals as goal

pub returns : goal.returns
returns c = law
