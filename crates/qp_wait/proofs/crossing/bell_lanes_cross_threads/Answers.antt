use denote.Param.Send.{sendable}
use Rattle.qp_wait.proofs.CrossingLemmas.{bell-lane-send}
use Rattle.qp_wait.proofs.crossing.bell_lanes_cross_threads.Goals as goal

pub goes-requires-send-T : goal.goes-requires-send-T
goes-requires-send-T c κs = search (sendable, bell-lane-send) depth 20
