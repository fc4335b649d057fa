use mathlib.Core.Path.{refl}
use Rattle.atomic_table.specs.Table.{keeps}
use Rattle.qp_wait_bells.specs.Tallies.{with_added}
use Rattle.qp_wait_bells.proofs.Steps.{adds}
use Rattle.qp_wait_bells.proofs.tally.add.Goals as goal

pub fetch_add-requires : goal.fetch_add-requires
fetch_add-requires c = (c.requires.own.0, c.requires.own.1, λ s h wide at small. (with_added c.args.n c.args.seat.now.me.0, keeps, tt, adds s.words s.views c.args.seat.now.id c.args.seat.now.me.0 at small c.args.n h, refl))
