use Rattle.qp_wait_bells.proofs.Steps.{parts}
use Rattle.qp_wait_bells.proofs.tally.seat_of.Goals as goal

pub split_seat-requires : goal.split_seat-requires
split_seat-requires c = (c.requires.own.0, c.requires.own.1, λ s h at. parts s.words s.views c.args.root.now.id c.args.root.now.me.0 at h)
