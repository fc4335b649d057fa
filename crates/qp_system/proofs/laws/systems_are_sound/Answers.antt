use Rattle.qp_system.proofs.LawLemmas.{systems_are_sound as law}
use Rattle.qp_system.proofs.laws.systems_are_sound.Goals as goal

pub returns : goal.returns
returns c = law
