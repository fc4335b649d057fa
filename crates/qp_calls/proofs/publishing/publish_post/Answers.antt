use Rattle.qp_calls.proofs.Announcing.{goes-on, goes-on-assert}
use Rattle.qp_calls.proofs.publishing.publish_post.Goals as goal

pub returns-in-Value : goal.returns-in-Value
returns-in-Value g c =
    goes-on c.args.p c.highest-to.result.0 c.highest-to.result.1 c.in-Value.field-0 _ (g.O.Ops.lane c.room.new.self) _ c.room.ensures.stays c.highest-to.ensures.first c.requires.stands c.in-Value.ensures

pub returns-in-Assert : goal.returns-in-Assert
returns-in-Assert g c =
    goes-on-assert c.args.p c.highest-to.result.0 c.highest-to.result.1 c.in-Assert.code _ (g.O.Ops.lane c.room.new.self) _ c.room.ensures.stays c.highest-to.ensures.first c.in-Assert.ensures
