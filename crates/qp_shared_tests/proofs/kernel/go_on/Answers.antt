use Rattle.qp_shared_tests.proofs.kernel.go_on.Goals as goal

pub turn-requires-clause-knows : goal.turn-requires-clause-knows
turn-requires-clause-knows g c = c.requires.knows c.if-started.true
