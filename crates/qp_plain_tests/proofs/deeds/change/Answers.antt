use Rattle.qp_plain_tests.proofs.DeedLemmas.{disarmed-steady, rearmed-steady}
use Rattle.qp_plain_tests.proofs.deeds.change.Goals as goal

pub returns-then-ticks-eq0 : goal.returns-then-ticks-eq0
returns-then-ticks-eq0 g c = λ value. disarmed-steady c.args.timer _ _ _ c.disarm.result c.room.ensures.stays c.disarm.ensures.disarms

pub returns : goal.returns
returns g c = λ value. rearmed-steady c.args.timer c.args.ticks _ _ _ c.rearm.result c.room.ensures.stays c.rearm.ensures.rearms
