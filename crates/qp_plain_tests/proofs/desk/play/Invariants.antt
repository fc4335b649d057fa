use Rattle.qp_plain.specs.WorldView.{world_view}
use Rattle.qp_plain_tests.specs.Desk.{MayGoOn}
use Rattle.qp_plain_tests.proofs.desk.play.Given as goal

-- the test may go on after the acts so far
abbrev pub invariant-loop-act : goal.invariant-loop-act
invariant-loop-act g l = record { may : MayGoOn l.fn.sys l.list.entries.items (world_view l.world) }
