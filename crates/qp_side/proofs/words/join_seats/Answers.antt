use Rattle.std.proofs.Common.{arith}
use Rattle.qp_side.proofs.SeatLemmas.{seats-join}
use Rattle.qp_side.proofs.words.join_seats.Goals as goal

pub join_seat-requires : goal.join_seat-requires
join_seat-requires c = let w = c.requires.wide in
    (c.requires.own, c.requires.other.0, c.requires.other.1, omega arith, λ s h at apart there. seats-join c.args.words.now.shared.key s.words s.views h c.args.seat.now.id c.args.seat.now.me.0 at c.args.other.id c.args.other.me.0 apart there)
