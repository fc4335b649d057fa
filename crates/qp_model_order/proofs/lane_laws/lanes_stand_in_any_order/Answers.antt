use Rattle.qp_model_order.proofs.LawLemmas.{lanes_stand_in_any_order as law}
use Rattle.qp_model_order.proofs.lane_laws.lanes_stand_in_any_order.Goals as goal

pub returns : goal.returns
returns c = law
