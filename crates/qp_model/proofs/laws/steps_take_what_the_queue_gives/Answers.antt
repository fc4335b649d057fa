use Rattle.qp_model.proofs.MeaningLemmas.{takes_what_its_queue_gives as law}
use Rattle.qp_model.proofs.laws.steps_take_what_the_queue_gives.Goals as goal

pub returns : goal.returns
returns c = law
