use Rattle.qp_wait_bells.proofs.Steps.{joins}
use Rattle.qp_wait_bells.proofs.tally.join.Goals as goal

pub join_seat-requires : goal.join_seat-requires
join_seat-requires c = (c.requires.own.0, c.requires.other.0, c.requires.other.1, c.requires.own.1, λ s h at apart there. joins s.words s.views c.args.seat.now.id c.args.other.id c.args.seat.now.me.0 c.args.other.me.0 at there h)
