use Rattle.qp_plain_sound.proofs.EndLemmas.{quiet-end}
use Rattle.qp_plain_sound.proofs.laws.a_quiet_end_rests.Goals as goal

pub returns : goal.returns
returns c = quiet-end
