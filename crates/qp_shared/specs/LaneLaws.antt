-- The laws of every lane.
use Rattle.qp_calls.specs.LaneLaws.{IsWithinLimit, HasCauses}
use Rattle.qp_calls_log.specs.LaneLaws as logs
use Rattle.qp_shared_lane.proofs.LawLemmas.{lanes_tell_their_logs}
use Rattle.qp_shared_lane.specs.Lane.{world_of_lane}
use Rattle.qp_shared.specs.declared.lane.SharedLane.{SharedLane}
use Rattle.qp_shared.specs.Lane.{lane_view}

tells : (l : SharedLane) → logs.TellsLog l.state.log (lane_view l)
tells l = lanes_tell_their_logs (world_of_lane l.state) l.state.sys.now l.state.by l.state.count l.state.ceiling l.state.log l.state.numbers.list l.state.seat.me.0 l.state.side.seat.me.0 l.state.holds

pub keeps-limit : (l : SharedLane) → IsWithinLimit (lane_view l)
keeps-limit l = logs.keeps-limit l.state.log (lane_view l) (tells l)

pub has-causes : (l : SharedLane) → HasCauses (lane_view l)
has-causes l = logs.has-causes l.state.log (lane_view l) (tells l)
