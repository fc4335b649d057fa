use Rattle.qp_plain_tests.proofs.DeedLemmas.{armed-steady}
use Rattle.qp_plain_tests.proofs.deeds.arm.Goals as goal

pub returns-in-Done : goal.returns-in-Done
returns-in-Done g c = λ value. armed-steady c.args.timer c.args.ticks c.args.interval _ _ _ c.arm.result c.room.ensures.stays c.arm.ensures.arms
