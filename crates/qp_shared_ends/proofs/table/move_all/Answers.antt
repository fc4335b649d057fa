use Rattle.std.proofs.Common.{arith}
use Rattle.qp_shared_ends.proofs.Parting.{moves-all}
use Rattle.qp_shared_ends.proofs.table.move_all.Goals as goal

pub part-requires-clause-own : goal.part-requires-clause-own
part-requires-clause-own c = let w = c.requires.wide in (c.requires.own, omega arith)

pub part-requires-clause-keeps : goal.part-requires-clause-keeps
part-requires-clause-keeps c = moves-all c.args.words.now.shared.key c.args.seat.now.id c.args.seat.now.me.0
