use Rattle.std.proofs.Common.{arith}
use Rattle.qp_side.proofs.SeatLemmas.{seats-given}
use Rattle.qp_side.specs.Seats.{in_set}
use Rattle.qp_side.proofs.words.give_seat.Goals as goal

pub part-requires-clause-own : goal.part-requires-clause-own
part-requires-clause-own c = let w = c.requires.wide in (c.requires.own, omega arith)

pub part-requires-clause-keeps : goal.part-requires-clause-keeps
part-requires-clause-keeps c words views holds at = seats-given c.args.words.now.shared.key words views holds c.args.root.now.id c.args.root.now.me.0 at c.args.number (in_set c.args.objects) c.requires.few c.requires.left c.requires.bare
