use Rattle.std.proofs.Common.{arith}
use Rattle.qp_side.proofs.Onlookers.{seats-look-on}
use Rattle.qp_side.proofs.words.look_on.Goals as goal

pub part-requires-clause-own : goal.part-requires-clause-own
part-requires-clause-own c = let w = c.requires.wide in (c.requires.own, omega arith)

pub part-requires-clause-keeps : goal.part-requires-clause-keeps
part-requires-clause-keeps c words views holds at = seats-look-on c.args.words.now.shared.key words views holds c.args.seat.now.id c.args.seat.now.me.0 at
