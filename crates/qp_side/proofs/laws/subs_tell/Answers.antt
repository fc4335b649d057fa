use Rattle.qp_side.proofs.SignalLemmas.{subs as law}
use Rattle.qp_side.proofs.laws.subs_tell.Goals as goal

pub returns : goal.returns
returns c = law
