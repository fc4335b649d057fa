use Rattle.std.proofs.Common.{sym}
use Rattle.qp_wait_runs.proofs.Ending.{off-with-note}
use Rattle.qp_wait_runs.proofs.turns.source_over.Goals as goal

pub returns-then-not-is_idle-clause-over : goal.returns-then-not-is_idle-clause-over
returns-then-not-is_idle-clause-over c =
    off-with-note c.args.turn.now c.args.ops.now c.away.new.self c.farewell.new.self (sym c.if-not-is_idle.ensures) c.away.ensures c.farewell.ensures
