use Rattle.qp_dispatch.proofs.Singles.{disarm-none, disarm-some}
use Rattle.qp_dispatch.proofs.timing.disarm.Goals as goal

pub returns-then-disarm-eq0 : goal.returns-then-disarm-eq0
returns-then-disarm-eq0 g c =
    let lane = g.O.Ops.lane in
    disarm-none c.args.t c.args.place (lane c.args.ops.now) (lane c.room.new.self) (lane c.disarm.new.self) c.requires.number c.room.ensures.stays
    c.disarm.result c.if-disarm-eq0.true c.disarm.ensures.disarms

pub returns : goal.returns
returns g c =
    let lane = g.O.Ops.lane in
    disarm-some c.args.t c.args.place (lane c.args.ops.now) (lane c.room.new.self) (lane c.disarm.new.self) c.requires.number c.room.ensures.stays
    c.disarm.result c.if-disarm-eq0.false c.disarm.ensures.disarms
