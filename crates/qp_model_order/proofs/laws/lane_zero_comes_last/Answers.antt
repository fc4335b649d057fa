use Rattle.qp_model_order.proofs.OrderLaws.{zero_comes_last as law}
use Rattle.qp_model_order.proofs.laws.lane_zero_comes_last.Goals as goal

pub returns : goal.returns
returns c = law
