use Rattle.qp_model_order.proofs.OrderLaws.{stimulus_comes_last as law}
use Rattle.qp_model_order.proofs.laws.stimuli_come_last.Goals as goal

pub returns : goal.returns
returns c = law
