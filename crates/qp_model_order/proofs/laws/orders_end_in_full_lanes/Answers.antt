use Rattle.qp_model_order.proofs.OrderLaws.{order_ends_in_full_lane as law}
use Rattle.qp_model_order.proofs.laws.orders_end_in_full_lanes.Goals as goal

pub returns : goal.returns
returns c = law
