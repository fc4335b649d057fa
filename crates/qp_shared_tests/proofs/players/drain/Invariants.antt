use Rattle.qp_shared_tests.specs.Lanes.{IsSame}
use Rattle.qp_shared_tests.proofs.players.drain.Given as goal

abbrev pub invariant-loop-entry : goal.invariant-loop-entry
invariant-loop-entry g l = record { same : IsSame (g.O.Ops.lane l.fn.ops) (g.O.Ops.lane l.ops) }
