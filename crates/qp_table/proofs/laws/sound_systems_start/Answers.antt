use Rattle.qp_table.proofs.LawLemmas.{sound_systems_start as law}
use Rattle.qp_table.proofs.laws.sound_systems_start.Goals as goal

pub returns : goal.returns
returns c = law
