use Rattle.qp_side.proofs.SignalLemmas.{pubs as law}
use Rattle.qp_side.proofs.laws.pubs_tell.Goals as goal

pub returns : goal.returns
returns c = law
