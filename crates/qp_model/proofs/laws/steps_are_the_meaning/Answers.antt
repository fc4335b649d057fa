use Rattle.qp_model.proofs.MeaningLemmas.{steps_are_the_meaning as law}
use Rattle.qp_model.proofs.laws.steps_are_the_meaning.Goals as goal

pub returns : goal.returns
returns c = law
