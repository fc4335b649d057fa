use Rattle.qp_calls.specs.Clauses.{entry_of}
use Rattle.qp_calls.proofs.Announcing.{posts-again}
use Rattle.qp_calls.proofs.publishing.post_one.Goals as goal

pub returns : goal.returns
returns g c = posts-again (entry_of c.args.e.now) c.args.to c.again-made.result c.post_entry.result _ _ _ c.again-made.ensures c.post_entry.ensures
