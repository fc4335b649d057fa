use Rattle.qp_model_order.proofs.OrderLaws.{source_goes_on as law}
use Rattle.qp_model_order.proofs.laws.sources_go_on.Goals as goal

pub returns : goal.returns
returns c = law
