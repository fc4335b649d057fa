use Rattle.qp_side.proofs.ClockLemmas.{eye-arms as law}
use Rattle.qp_side.proofs.laws.arm_eyes_tell.Goals as goal

pub returns : goal.returns
returns c = law
