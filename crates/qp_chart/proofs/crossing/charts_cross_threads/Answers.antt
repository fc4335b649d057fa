use denote.Param.Send.{sendable}
use Rattle.qp_chart.proofs.CrossingLemmas.{chart-send, chart-sync}
use Rattle.qp_chart.proofs.crossing.charts_cross_threads.Goals as goal

pub crosses-requires-send-T : goal.crosses-requires-send-T
crosses-requires-send-T c κs = let s = chart-send in search sendable depth 20

pub crosses-requires-sync-T : goal.crosses-requires-sync-T
crosses-requires-sync-T c κs = let s = chart-sync in search sendable depth 20
