use mathlib.Core.Path.{refl}
use Rattle.qp_wait_bells.specs.Parks.{with_park}
use Rattle.qp_wait_bells.proofs.Steps.{parks}
use Rattle.qp_wait_bells.proofs.parking.park_once.Goals as goal

pub park_as-requires : goal.park_as-requires
park_as-requires g c = record { parker = c.requires.own; rule = λ views h at. (with_park c.args.pass.now.me.0, parks views c.args.pass.now.id c.args.pass.now.me.0 at h, refl) }
