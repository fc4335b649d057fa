use Rattle.qp_model_order.proofs.OrderLaws.{numbers_go_on as law}
use Rattle.qp_model_order.proofs.laws.numbers_go_on.Goals as goal

pub returns : goal.returns
returns c = law
