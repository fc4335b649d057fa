use Rattle.std.proofs.Common.{arith}
use Rattle.qp_side.proofs.StopLemmas.{finds}
use Rattle.qp_side.proofs.stop_steps.find.Goals as goal

pub look-requires-clause-own : goal.look-requires-clause-own
look-requires-clause-own c = let w = c.requires.wide in (c.requires.own, omega arith)

pub look-requires-clause-keeps : goal.look-requires-clause-keeps
look-requires-clause-keeps c = finds c.args.words.now.shared.key c.args.seat.now.id c.args.seat.now.me.0
