use Rattle.qp_model_order.proofs.SourceLanes.{source_lane_stops as law}
use Rattle.qp_model_order.proofs.laws.source_lanes_stop.Goals as goal

pub returns : goal.returns
returns c = law
