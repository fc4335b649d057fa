use Rattle.qp_shared_tests.proofs.turns.is_over.Goals as goal

pub waits-requires-clause-knows : goal.waits-requires-clause-knows
waits-requires-clause-knows g c = c.starts.ensures c.if-not-starts.false
