use Rattle.qp_model_order.proofs.OrderLaws.{source_stops as law}
use Rattle.qp_model_order.proofs.laws.sources_stop.Goals as goal

pub returns : goal.returns
returns c = law
