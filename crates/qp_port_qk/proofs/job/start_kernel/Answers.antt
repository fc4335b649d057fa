use Rattle.std.proofs.Common.{false}
use Rattle.qp_dispatch.specs.declared.objects.Turn.TheVariants as turn
use Rattle.qp_dispatch.specs.declared.steps.Step.TheVariants as step
use Rattle.qp_port_lanes.proofs.Feeding.{lane-feeds}
use Rattle.qp_port_lanes.proofs.Hearing.{why-stopped}
use Rattle.qp_port_qk.proofs.Ending.{kernel-alone, kernel-started, started-none, starts-same, stopped-alone, stopped-ends, stopped-none}
use Rattle.qp_port_qk.proofs.job.start_kernel.Goals as goal

pub returns-in-Done-clause-starts : goal.returns-in-Done-clause-starts
returns-in-Done-clause-starts g c =
    let v = g.O.Ops.lane c.args.ops.now in
    let w = g.O.Ops.lane c.start.new.ops in
    kernel-started c.args.sys.now c.args.budget c.args.objects.now c.start.new.self c.args.kernel.now v w c.requires.begins (starts-same v w step.Done c.in-Done.ensures.lane) c.in-Done.ensures.goes

pub returns-in-Done-clause-none : goal.returns-in-Done-clause-none
returns-in-Done-clause-none g c = λ free. started-none c.args.sys.now c.args.budget c.args.objects.now c.start.new.self (g.O.Ops.lane c.args.ops.now) (g.O.Ops.lane c.start.new.ops) c.in-Done.ensures.goes

pub returns-in-Stopped-clause-starts : goal.returns-in-Stopped-clause-starts
returns-in-Stopped-clause-starts g c =
    let v = g.O.Ops.lane c.args.ops.now in
    let w = g.O.Ops.lane c.start.new.ops in
    (stopped-ends c.args.sys.now c.args.budget v w c.in-Stopped.ensures.goes, why-stopped v w c.in-Stopped.ensures.lane.handed)

pub returns-in-Stopped-clause-none : goal.returns-in-Stopped-clause-none
returns-in-Stopped-clause-none g c = λ free. stopped-none c.args.sys.now c.args.budget (g.O.Ops.lane c.args.ops.now) (g.O.Ops.lane c.start.new.ops) c.in-Stopped.ensures.goes

pub returns-in-Done-clause-alone : goal.returns-in-Done-clause-alone
returns-in-Done-clause-alone g c = kernel-alone c.args.sys.now c.args.objects.now c.start.new.self c.args.kernel.now (g.O.Ops.lane c.args.ops.now) (g.O.Ops.lane c.start.new.ops) c.requires.begins c.in-Done.ensures.goes

pub returns-in-Stopped-clause-alone : goal.returns-in-Stopped-clause-alone
returns-in-Stopped-clause-alone g c = stopped-alone c.args.sys.now c.args.objects.now c.args.kernel.now (g.O.Ops.lane c.args.ops.now) (g.O.Ops.lane c.start.new.ops) c.requires.begins c.in-Stopped.ensures.goes

pub returns-in-Done-clause-feeds : goal.returns-in-Done-clause-feeds
returns-in-Done-clause-feeds g c = lane-feeds false (g.O.Ops.lane c.args.ops.now) (g.O.Ops.lane c.start.new.ops) turn.Idle c.in-Done.ensures.lane

pub returns-in-Stopped-clause-feeds : goal.returns-in-Stopped-clause-feeds
returns-in-Stopped-clause-feeds g c = lane-feeds false (g.O.Ops.lane c.args.ops.now) (g.O.Ops.lane c.start.new.ops) turn.Stopped c.in-Stopped.ensures.lane

pub returns-in-Memory-clause-feeds : goal.returns-in-Memory-clause-feeds
returns-in-Memory-clause-feeds g c = lane-feeds false (g.O.Ops.lane c.args.ops.now) (g.O.Ops.lane c.start.new.ops) turn.Memory c.in-Memory.ensures.lane
