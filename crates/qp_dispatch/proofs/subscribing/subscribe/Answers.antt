use Rattle.qp_dispatch.proofs.Singles.{sub-granted, sub-same}
use Rattle.qp_dispatch.proofs.subscribing.subscribe.Goals as goal

pub returns-then-subscribe : goal.returns-then-subscribe
returns-then-subscribe g c = let lane = g.O.Ops.lane in sub-granted c.args.sig c.subscribe.result (lane c.args.ops.now) (lane c.room.new.self) (lane c.subscribe.new.self) c.if-subscribe.true c.room.ensures.stays c.subscribe.ensures

pub returns : goal.returns
returns g c = let lane = g.O.Ops.lane in sub-same c.args.sig c.subscribe.result (lane c.args.ops.now) (lane c.room.new.self) (lane c.subscribe.new.self) c.if-subscribe.false c.room.ensures.stays c.subscribe.ensures
