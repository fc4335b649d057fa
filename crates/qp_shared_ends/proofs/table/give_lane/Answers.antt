use Rattle.std.proofs.Common.{arith}
use Rattle.qp_side.specs.Seats.{in_set}
use Rattle.qp_shared_ends.proofs.Parting.{gives-lane}
use Rattle.qp_shared_ends.proofs.table.give_lane.Goals as goal

pub part-requires-clause-own : goal.part-requires-clause-own
part-requires-clause-own c = let w = c.requires.wide in (c.requires.own, omega arith)

pub part-requires-clause-keeps : goal.part-requires-clause-keeps
part-requires-clause-keeps c = gives-lane c.args.words.now.shared.key c.args.root.now.id c.args.root.now.me.0 c.args.number (in_set c.args.objects) c.requires.few c.requires.left c.requires.lane c.requires.unused
