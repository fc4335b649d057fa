use denote.Param.Send.{sendable}
use Rattle.qp_model.proofs.CrossingLemmas.{system-send, system-sync}
use Rattle.qp_model.proofs.crossing.systems_cross_threads.Goals as goal

pub crosses-requires-send-T : goal.crosses-requires-send-T
crosses-requires-send-T c κs = let s = system-send in search sendable depth 20

pub crosses-requires-sync-T : goal.crosses-requires-sync-T
crosses-requires-sync-T c κs = let s = system-sync in search sendable depth 20
