use Rattle.qp_side.proofs.ClockLemmas.{ticks-tell as law}
use Rattle.qp_side.proofs.laws.ticks_tell.Goals as goal

pub returns : goal.returns
returns c = law
