use Rattle.std.proofs.Common.{subst}
use Rattle.qp_port_lanes.proofs.Feeding.{passes-feed}
use Rattle.qp_port_qk.specs.Jobs.{QkJobRests}
use Rattle.qp_port_qk.proofs.Turning.{source-passed, source-passed_hands, source-passed_hears, source-passed_to}
use Rattle.qp_port_qk.proofs.job.pass_job.Goals as goal

pub returns-clause-stands : goal.returns-clause-stands
returns-clause-stands g c =
    source-passed c.args.sys.now c.args.budget c.in-Source.source c.pass_settle.new.source (g.O.Ops.lane c.args.ops.now) (g.O.Ops.lane c.pass_settle.new.ops) c.pass_settle.result c.pass_settle.ensures.passes c.pass_settle.ensures.same

pub returns-clause-tries : goal.returns-clause-tries
returns-clause-tries g c =
    let lane = g.O.Ops.lane in
    let at = subst (λ j. QkJobRests c.args.sys.now c.args.budget j (lane c.args.ops.now)) c.in-Source.is c.requires.rests in
    source-passed_to c.args.sys.now c.in-Source.source c.pass_settle.new.source (lane c.args.ops.now) (lane c.pass_settle.new.ops) c.pass_settle.result at c.pass_settle.ensures.passes

pub returns-clause-hands : goal.returns-clause-hands
returns-clause-hands g c =
    let lane = g.O.Ops.lane in
    source-passed_hands c.args.sys.now c.in-Source.source c.pass_settle.new.source (lane c.args.ops.now) (lane c.pass_settle.new.ops) c.pass_settle.result c.pass_settle.ensures.passes

pub returns-clause-hears : goal.returns-clause-hears
returns-clause-hears g c =
    let lane = g.O.Ops.lane in
    source-passed_hears c.args.sys.now c.in-Source.source c.pass_settle.new.source (lane c.args.ops.now) (lane c.pass_settle.new.ops) c.pass_settle.result c.pass_settle.ensures.passes

pub returns-clause-feeds : goal.returns-clause-feeds
returns-clause-feeds g c =
    let lane = g.O.Ops.lane in
    passes-feed c.args.sys.now c.in-Source.source c.pass_settle.new.source (lane c.args.ops.now) (lane c.pass_settle.new.ops) c.pass_settle.result c.pass_settle.ensures.passes
