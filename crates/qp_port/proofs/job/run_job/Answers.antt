use Rattle.std.proofs.Common.{false, refl}
use Rattle.qp_calls.proofs.Advancing.{advances-none}
use Rattle.qp_port_lanes.proofs.Feeding.{lane-feeds, source-feeds}
use Rattle.qp_port.proofs.Standing.{source-turned}
use Rattle.qp_port.proofs.job.run_job.Goals as goal

pub returns-in-Source-clause-stands : goal.returns-in-Source-clause-stands
returns-in-Source-clause-stands g c =
    let lane = g.O.Ops.lane in
    source-turned c.args.sys.now c.args.budget c.in-Source.source c.source_turn.new.source (lane c.args.ops.now) (lane c.source_turn.new.ops) c.source_turn.result c.source_turn.ensures.turns c.source_turn.ensures.same

pub returns-in-Home-clause-feeds : goal.returns-in-Home-clause-feeds
returns-in-Home-clause-feeds g c = lane-feeds false (g.O.Ops.lane c.args.ops.now) (g.O.Ops.lane c.object.new.ops) c.object.result c.object.ensures.lane

pub returns-in-Source-clause-feeds : goal.returns-in-Source-clause-feeds
returns-in-Source-clause-feeds g c =
    let lane = g.O.Ops.lane in
    source-feeds c.args.sys.now c.in-Source.source c.source_turn.new.source (lane c.args.ops.now) (lane c.source_turn.new.ops) c.source_turn.result c.source_turn.ensures.turns

pub returns-in-Nothing-clause-lane : goal.returns-in-Nothing-clause-lane
returns-in-Nothing-clause-lane g c = record { sys = refl; lane = refl; world = refl; plan = refl; happened = refl; serves = λ o. refl; advances = advances-none (g.O.Ops.lane c.args.ops.now) }
