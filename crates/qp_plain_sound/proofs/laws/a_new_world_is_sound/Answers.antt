use Rattle.qp_plain_sound.proofs.NewLemmas.{new-sound, new-lane}
use Rattle.qp_plain_sound.proofs.laws.a_new_world_is_sound.Goals as goal

pub returns : goal.returns
returns c = record { sound = new-sound; new = new-lane }
