use Rattle.qp_side.proofs.SignalLemmas.{unsubs as law}
use Rattle.qp_side.proofs.laws.unsubs_tell.Goals as goal

pub returns : goal.returns
returns c = law
