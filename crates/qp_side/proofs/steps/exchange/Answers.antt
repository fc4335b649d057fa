use Rattle.std.proofs.Common.{refl}
use Rattle.atomic_table.specs.Table.{keeps}
use Rattle.qp_side.proofs.steps.exchange.Goals as goal

pub compare_exchange-requires : goal.compare_exchange-requires
compare_exchange-requires g c = (c.requires.own.0, c.requires.own.1, λ s h wide at small. let z = c.requires.keeps s.words s.views h at small in (z.0, keeps, tt, z.1, (z.2, refl)))
