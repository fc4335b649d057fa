use Rattle.std.proofs.Common.{false}
use Rattle.qp_dispatch.specs.declared.objects.Turn.TheVariants as turn
use Rattle.qp_port_lanes.proofs.Feeding.{lane-feeds}
use Rattle.qp_port.proofs.job.start_home.Goals as goal

pub returns-in-Done-clause-feeds : goal.returns-in-Done-clause-feeds
returns-in-Done-clause-feeds g c = lane-feeds false (g.O.Ops.lane c.args.ops.now) (g.O.Ops.lane c.start.new.ops) turn.Idle c.in-Done.ensures.lane

pub returns-in-Stopped-clause-feeds : goal.returns-in-Stopped-clause-feeds
returns-in-Stopped-clause-feeds g c = lane-feeds false (g.O.Ops.lane c.args.ops.now) (g.O.Ops.lane c.start.new.ops) turn.Stopped c.in-Stopped.ensures.lane

pub returns-in-Memory-clause-feeds : goal.returns-in-Memory-clause-feeds
returns-in-Memory-clause-feeds g c = lane-feeds false (g.O.Ops.lane c.args.ops.now) (g.O.Ops.lane c.start.new.ops) turn.Memory c.in-Memory.ensures.lane
