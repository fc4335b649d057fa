use mathlib.Core.Path.{refl}
use Rattle.std.proofs.Common.{slice_index}
use Rattle.atomic_table.specs.Table.{keeps}
use Rattle.qp_wait_bells.specs.Tallies.{look_found}
use Rattle.qp_wait_bells.proofs.Steps.{looks}
use Rattle.qp_wait_bells.proofs.tally.find.Goals as goal

pub load-requires : goal.load-requires
load-requires c = (c.requires.own.0, c.requires.own.1, λ s h wide at small. (look_found (slice_index s.words 0) c.args.seat.now.me.0, keeps, tt, looks s.words s.views c.args.seat.now.id c.args.seat.now.me.0 at small h, refl))
