use Rattle.std.proofs.Common.{arith}
use Rattle.qp_plain.proofs.world.PlainWorld.lanes.Goals as goal

pub overflow_cast-result : goal.overflow_cast-result
overflow_cast-result c =
    let b = c.args.self.now.book in
    let ok = b.others.ok in
    record { fits = omega (arith, b.few, c.len.ensures, ok.0) }
