use Rattle.std.proofs.Common.{refl}
use Rattle.atomic_table.specs.Table.{keeps}
use Rattle.qp_side.proofs.steps.look.Goals as goal

pub load-requires : goal.load-requires
load-requires g c = (c.requires.own.0, c.requires.own.1, λ s h wide at small. let z = c.requires.keeps s.words s.views h at small in (z.0, keeps, tt, z.1, (z.2, refl)))
