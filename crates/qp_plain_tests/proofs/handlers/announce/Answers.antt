use Rattle.qp_calls.specs.Clauses.{event_of}
use Rattle.qp_plain_tests.proofs.HandlerLemmas.{begun-going, ends-steady}
use Rattle.qp_plain_tests.proofs.handlers.announce.Goals as goal

pub returns-in-Going : goal.returns-in-Going
returns-in-Going g c =
    ends-steady (event_of c.args.ev.now) c.args.reserve 0 c.in-Going.p c.go_on.result _ _ _ _ c.in_ok-locked.ensures.0
    (begun-going (event_of c.args.ev.now) c.args.reserve 0 c.publish_begin.result _ c.in-Going.p _ _ c.publish_begin.ensures c.in_ok-did.ensures.value c.in-Going.is) c.go_on.ensures
