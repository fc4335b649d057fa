use denote.Param.Send.{sendable}
use Rattle.qp_shared.proofs.CrossingLemmas.{tables-sync}
use Rattle.qp_shared.proofs.crossing.tables_are_shared.Goals as goal

pub shares-requires-sync-T : goal.shares-requires-sync-T
shares-requires-sync-T c κs = search (sendable, tables-sync) depth 20
