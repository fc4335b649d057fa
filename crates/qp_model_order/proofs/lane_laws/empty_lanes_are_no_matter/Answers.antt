use Rattle.qp_model_order.proofs.LawLemmas.{empty_lanes_are_no_matter as law}
use Rattle.qp_model_order.proofs.lane_laws.empty_lanes_are_no_matter.Goals as goal

pub returns : goal.returns
returns c = law
