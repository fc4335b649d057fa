use Rattle.qp_model_order.proofs.OrderLaws.{free_look_comes_last as law}
use Rattle.qp_model_order.proofs.laws.free_looks_come_last.Goals as goal

pub returns : goal.returns
returns c = law
