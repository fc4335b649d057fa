use Rattle.qp_model.proofs.LawLemmas.{cooperative_steps_stand_alone as law}
use Rattle.qp_model.proofs.laws.cooperative_steps_stand_alone.Goals as goal

pub returns : goal.returns
returns c = law
