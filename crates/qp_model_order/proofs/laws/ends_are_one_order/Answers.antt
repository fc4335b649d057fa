use Rattle.qp_model_order.proofs.OrderLaws.{ends_are_one_order as law}
use Rattle.qp_model_order.proofs.laws.ends_are_one_order.Goals as goal

pub returns : goal.returns
returns c = law
