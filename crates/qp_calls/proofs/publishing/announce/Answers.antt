use Rattle.qp_model.specs.Parts.{is_static}
use Rattle.qp_calls.specs.Clauses.{event_of}
use Rattle.qp_calls.proofs.Announcing.{announced}
use Rattle.qp_calls.proofs.publishing.announce.Goals as goal

pub returns-in-Ok : goal.returns-in-Ok
returns-in-Ok g c =
    announced (is_static c.args.sys.now c.args.ev.now.sig) (event_of c.args.ev.now) c.args.reserve c.in-Ok.e _ _ _ _ c.in-Ok.ensures c.subscribers-set.ensures
