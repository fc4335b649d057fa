use Rattle.qp_calls.proofs.Announcing.{ends-going}
use Rattle.qp_calls.proofs.publishing.publish_end.Goals as goal

pub returns : goal.returns
returns g c = ends-going c.args.p _ (g.O.Ops.lane c.room.new.self) (g.O.Ops.lane c.lower.new.ops) _ c.room.ensures.stays c.lower.ensures c.drop_entry.ensures.released
