use Rattle.qp_plain_tests.proofs.DeedLemmas.{subscribed-steady, unsubscribed-steady}
use Rattle.qp_plain_tests.proofs.deeds.subscribing.Goals as goal

pub returns-then-on : goal.returns-then-on
returns-then-on g c = λ value. subscribed-steady c.args.sig _ _ _ c.subscribe.result c.room.ensures.stays c.subscribe.ensures

pub returns : goal.returns
returns g c = λ value. unsubscribed-steady c.args.sig _ _ _ c.unsubscribe.result c.room.ensures.stays c.unsubscribe.ensures
