use Rattle.qp_shared_tests.specs.Lanes.{IsSame}
use Rattle.qp_shared_tests.proofs.players.play.Given as goal

abbrev pub invariant-loop-round : goal.invariant-loop-round
invariant-loop-round g l = record { same : IsSame (g.O.Ops.lane l.fn.ops) (g.O.Ops.lane l.ops) }
