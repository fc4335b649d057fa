use Rattle.qp_side.proofs.ClockLemmas.{eye-idles as law}
use Rattle.qp_side.proofs.laws.idle_eyes_tell.Goals as goal

pub returns : goal.returns
returns c = law
