use Rattle.qp_port_lanes.proofs.Feeding.{lane-feeds}
use Rattle.qp_port_lanes.proofs.Hearing.{lane-hears}
use Rattle.qp_port_qk.proofs.Turning.{base-looks, kernel-counts, kernel-same, kernel-turned, order-alone, plan-fits}
use Rattle.qp_port_qk.proofs.job.run_kernel.Goals as goal

pub kernel_turn-requires-clause-fit : goal.kernel_turn-requires-clause-fit
kernel_turn-requires-clause-fit g c = plan-fits c.args.sys.now (g.W.Ops.lane c.args.world.now) c.requires.rests.plan

pub kernel_turn-requires-clause-knows : goal.kernel_turn-requires-clause-knows
kernel_turn-requires-clause-knows g c =
    base-looks c.args.sys.now c.args.budget c.args.kernel.now.looks c.args.kernel.now.stack.items c.args.objects.now (g.W.Ops.lane c.args.world.now) c.requires.rests.rests

pub kernel_turn-requires-clause-order : goal.kernel_turn-requires-clause-order
kernel_turn-requires-clause-order g c =
    order-alone g.W.World.acts c.args.sys.now c.args.budget c.args.objects.now c.args.kernel.now (g.W.Ops.lane c.args.world.now) c.requires.alone c.requires.rests

pub returns : goal.returns
returns g c =
    let sys = c.args.sys.now in
    let v = g.W.Ops.lane c.args.world.now in
    let w = g.W.Ops.lane c.kernel_turn.new.world in
    let e = c.kernel_turn.ensures in
    record {
      stands = kernel-turned g.W.World.acts sys c.args.budget c.args.objects.now c.kernel_turn.new.objects c.args.kernel.now c.kernel_turn.new.kernel v w c.kernel_turn.result c.requires.rests e.goes e.order e.rests e.counted e.lane;
      turns = record { goes = e.goes; order = e.order; lane = e.lane };
      hears = lane-hears g.W.World.acts v w c.kernel_turn.result e.lane;
      feeds = lane-feeds g.W.World.acts v w c.kernel_turn.result e.lane;
      lane = kernel-same g.W.World.acts v w c.kernel_turn.result c.requires.alone e.lane;
      counts = kernel-counts g.W.World.acts sys c.args.budget c.args.objects.now c.kernel_turn.new.objects c.args.kernel.now c.kernel_turn.new.kernel v w c.kernel_turn.result c.requires.alone c.requires.rests e.lane e.rows;
    }
