use Rattle.qp_dispatch.proofs.Singles.{unsub-granted, unsub-same}
use Rattle.qp_dispatch.proofs.subscribing.unsubscribe.Goals as goal

pub returns-then-unsubscribe : goal.returns-then-unsubscribe
returns-then-unsubscribe g c = let lane = g.O.Ops.lane in unsub-granted c.args.sig c.unsubscribe.result (lane c.args.ops.now) (lane c.room.new.self) (lane c.unsubscribe.new.self) c.if-unsubscribe.true c.room.ensures.stays c.unsubscribe.ensures

pub returns : goal.returns
returns g c = let lane = g.O.Ops.lane in unsub-same c.args.sig c.unsubscribe.result (lane c.args.ops.now) (lane c.room.new.self) (lane c.unsubscribe.new.self) c.if-unsubscribe.false c.room.ensures.stays c.unsubscribe.ensures
