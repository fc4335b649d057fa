use Rattle.qp_model_order.proofs.OrderLaws.{one_look_changes as law}
use Rattle.qp_model_order.proofs.laws.one_look_changes.Goals as goal

pub returns : goal.returns
returns c = law
