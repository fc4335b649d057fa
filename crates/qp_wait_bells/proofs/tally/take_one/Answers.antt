use mathlib.Core.Path.{refl}
use Rattle.std.proofs.Common.{slice_index}
use Rattle.atomic_table.specs.Table.{keeps}
use Rattle.qp_wait_bells.specs.Tallies.{with_taken}
use Rattle.qp_wait_bells.proofs.Steps.{takes}
use Rattle.qp_wait_bells.proofs.tally.take_one.Goals as goal

pub fetch_sub-requires : goal.fetch_sub-requires
fetch_sub-requires c = (c.requires.own.0, c.requires.own.1, λ s h wide at small. (with_taken (slice_index s.words 0) c.args.seat.now.me.0, keeps, tt, takes s.words s.views c.args.seat.now.id c.args.seat.now.me.0 at small h, refl))
