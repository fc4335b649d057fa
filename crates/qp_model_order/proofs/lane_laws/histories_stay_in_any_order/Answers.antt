use Rattle.qp_model_order.proofs.LawLemmas.{histories_stay_in_any_order as law}
use Rattle.qp_model_order.proofs.lane_laws.histories_stay_in_any_order.Goals as goal

pub returns : goal.returns
returns c = law
