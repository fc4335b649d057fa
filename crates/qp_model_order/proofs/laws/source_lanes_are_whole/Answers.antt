use Rattle.qp_model_order.proofs.SourceLanes.{source_lane_is_whole as law}
use Rattle.qp_model_order.proofs.laws.source_lanes_are_whole.Goals as goal

pub returns : goal.returns
returns c = law
