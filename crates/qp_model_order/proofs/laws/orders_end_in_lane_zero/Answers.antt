use Rattle.qp_model_order.proofs.OrderLaws.{order_ends_in_zero as law}
use Rattle.qp_model_order.proofs.laws.orders_end_in_lane_zero.Goals as goal

pub returns : goal.returns
returns c = law
