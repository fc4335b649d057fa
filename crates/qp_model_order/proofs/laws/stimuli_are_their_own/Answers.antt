use Rattle.qp_model_order.proofs.OrderLaws.{stimuli_are_their_own as law}
use Rattle.qp_model_order.proofs.laws.stimuli_are_their_own.Goals as goal

pub returns : goal.returns
returns c = law
