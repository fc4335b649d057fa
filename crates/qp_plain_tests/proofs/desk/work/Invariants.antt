use Rattle.std.proofs.Common.{◌∷◌}
use Rattle.qp_plain_tests.specs.Desk.{MayGoOn}
use Rattle.qp_plain_tests.proofs.desk.work.Given as goal

-- the test may go on after the deeds so far
abbrev pub invariant-loop-deed : goal.invariant-loop-deed
invariant-loop-deed g l = record { may : MayGoOn l.fn.sys (l.fn.now ∷ l.list.entries.items) (g.O.Ops.lane l.ops) }
