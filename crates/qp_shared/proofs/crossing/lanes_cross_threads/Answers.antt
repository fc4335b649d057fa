use denote.Param.Send.{sendable}
use Rattle.qp_shared.proofs.CrossingLemmas.{shared-lane-send}
use Rattle.qp_shared.proofs.crossing.lanes_cross_threads.Goals as goal

pub goes-requires-send-T : goal.goes-requires-send-T
goes-requires-send-T c κs = search (sendable, shared-lane-send) depth 20
