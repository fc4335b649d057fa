use Rattle.qp_model.proofs.LawLemmas.{steps_begin_above_the_floor as law}
use Rattle.qp_model.proofs.laws.steps_begin_above_the_floor.Goals as goal

pub returns : goal.returns
returns c = law
