use Rattle.qp_side.proofs.ClockLemmas.{eye-clocks as law}
use Rattle.qp_side.proofs.laws.clock_eyes_tell.Goals as goal

pub returns : goal.returns
returns c = law
