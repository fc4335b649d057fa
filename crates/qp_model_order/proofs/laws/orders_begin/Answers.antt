use Rattle.qp_model_order.proofs.OrderLaws.{order_begins as law}
use Rattle.qp_model_order.proofs.laws.orders_begin.Goals as goal

pub returns : goal.returns
returns c = law
