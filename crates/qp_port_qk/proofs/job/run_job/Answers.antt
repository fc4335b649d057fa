use Rattle.qp_port_lanes.proofs.Feeding.{source-feeds}
use Rattle.qp_port_qk.proofs.Turning.{source-counts, source-turned}
use Rattle.qp_port_qk.proofs.job.run_job.Goals as goal

pub returns-in-Source-clause-stands : goal.returns-in-Source-clause-stands
returns-in-Source-clause-stands g c =
    source-turned c.args.sys.now c.args.budget c.in-Source.source c.source_turn.new.source (g.W.Ops.lane c.args.world.now) (g.W.Ops.lane c.source_turn.new.ops) c.source_turn.result c.source_turn.ensures.turns c.source_turn.ensures.same

pub returns-in-Source-clause-counts : goal.returns-in-Source-clause-counts
returns-in-Source-clause-counts g c =
    rw c.in-Source.is
    (source-counts c.args.sys.now c.args.budget c.in-Source.source c.source_turn.new.source (g.W.Ops.lane c.args.world.now) (g.W.Ops.lane c.source_turn.new.ops) c.source_turn.result c.source_turn.ensures.turns)

pub returns-in-Source-clause-feeds : goal.returns-in-Source-clause-feeds
returns-in-Source-clause-feeds g c =
    source-feeds c.args.sys.now c.in-Source.source c.source_turn.new.source (g.W.Ops.lane c.args.world.now) (g.W.Ops.lane c.source_turn.new.ops) c.source_turn.result c.source_turn.ensures.turns
