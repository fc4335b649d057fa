use Rattle.qp_model_order.proofs.SourceLanes.{source_lane_goes_on as law}
use Rattle.qp_model_order.proofs.laws.source_lanes_go_on.Goals as goal

pub returns : goal.returns
returns c = law
