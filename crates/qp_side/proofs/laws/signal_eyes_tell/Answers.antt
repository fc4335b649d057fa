use Rattle.qp_side.proofs.SignalLemmas.{eye-signals as law}
use Rattle.qp_side.proofs.laws.signal_eyes_tell.Goals as goal

pub returns : goal.returns
returns c = law
