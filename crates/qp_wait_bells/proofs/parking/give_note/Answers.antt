use mathlib.Core.Path.{refl}
use Rattle.qp_wait_bells.specs.Parks.{with_note}
use Rattle.qp_wait_bells.proofs.Steps.{notes}
use Rattle.qp_wait_bells.proofs.parking.give_note.Goals as goal

pub unpark_as-requires : goal.unpark_as-requires
unpark_as-requires c = record { parker = c.requires.own; rule = λ was views h at. (with_note c.args.pass.now.me.0, notes views c.args.pass.now.id c.args.pass.now.me.0 at was h, refl) }
