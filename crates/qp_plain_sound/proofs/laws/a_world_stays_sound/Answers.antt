use Rattle.qp_plain_sound.proofs.LawLemmas.{stays-sound}
use Rattle.qp_plain_sound.proofs.laws.a_world_stays_sound.Goals as goal

pub returns : goal.returns
returns c = stays-sound
