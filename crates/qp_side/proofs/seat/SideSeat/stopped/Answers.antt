use Rattle.std.proofs.Common.{arith}
use Rattle.qp_side.proofs.Calling.{one-code}
use Rattle.qp_side.proofs.seat.SideSeat.stopped.Goals as goal

pub returns-clause-finds : goal.returns-clause-finds
returns-clause-finds c = let t = c.find-code.ensures.told.1 c.if-code-eq0.false in let some = c.if-code-eq0.false in (t.0, omega arith, t.1, one-code c.find-code.result c.args.self.now.seat.me.0.answered t.2)
