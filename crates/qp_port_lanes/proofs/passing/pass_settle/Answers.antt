use Rattle.std.proofs.Common.{◌∙◌, ap, subst, Ok}
use Rattle.qp_calls_stimulus.specs.declared.settling.Sight.{Sight}
use Rattle.qp_calls_stimulus.specs.Settling.{SettlesTo}
use Rattle.qp_calls.specs.Notes.{spills_told}
use Rattle.qp_port_lanes.proofs.Going.{unspilled-told}
use Rattle.qp_port_lanes.proofs.Ending.{cut-starves, cut-stops, cut-unspilled, passes-found, passes-yes}
use Rattle.qp_port_lanes.proofs.Waiting.{found-here, halts-starve, halts-stop, unset-before}
use Rattle.qp_port_lanes.proofs.passing.pass_settle.Goals as goal

pub returns-in-Some-clause-passes : goal.returns-in-Some-clause-passes
returns-in-Some-clause-passes g c = found-here c.args.sys.now c.args.source.now _ (g.O.Ops.lane c.look.new.ops) c.in-Some.p c.in-Some.now c.requires.knows c.requires.stands c.in-Some.ensures.0 c.in-Some.ensures.1

pub ready-requires : goal.ready-requires
ready-requires g c = ap spills_told c.in_default.ensures.0.told ∙ unspilled-told (g.O.Ops.lane c.args.ops.now).told c.requires.knows.at.calm

pub returns-in-Err-Stopped-clause-passes : goal.returns-in-Err-Stopped-clause-passes
returns-in-Err-Stopped-clause-passes g c =
    halts-stop c.args.sys.now c.args.source.now _ (g.O.Ops.lane c.look.new.ops) _ c.in-Err-Stopped.field-0 c.requires.knows c.requires.stands c.in_default.ensures.0 c.in_default.ensures.1 c.in-Err-Stopped.field-0-is c.in-Err-Stopped.ensures

pub returns-in-Err-Memory-clause-passes : goal.returns-in-Err-Memory-clause-passes
returns-in-Err-Memory-clause-passes g c = halts-starve c.args.sys.now c.args.source.now _ (g.O.Ops.lane c.look.new.ops) _ c.in-Err-Memory.field-0 c.in_default.ensures.0 c.in_default.ensures.1 c.in-Err-Memory.field-0-is c.in-Err-Memory.ensures

pub halt-requires-clause-spills : goal.halt-requires-clause-spills
halt-requires-clause-spills g c =
    let lane = g.O.Ops.lane in
    cut-unspilled c.args.sys.now c.args.source.now c.open.new.source (lane c.args.ops.now) (lane c.look.new.ops) (lane c.ready.new.ops) (lane c.open.new.ops) c.requires.knows
    c.in_default.ensures.0 c.in_default.ensures.1 c.in-Ok.ensures.roomier c.open.ensures (lane c.settle.new.ops) c.in-Err.ensures.0

pub returns-in-Ok-Empty-clause-passes : goal.returns-in-Ok-Empty-clause-passes
returns-in-Ok-Empty-clause-passes g c =
    let lane = g.O.Ops.lane in
    passes-yes c.args.sys.now c.args.source.now c.open.new.source (lane c.args.ops.now) (lane c.look.new.ops) (lane c.ready.new.ops) (lane c.open.new.ops) c.requires.knows
    c.in_default.ensures.0 c.in_default.ensures.1 c.in-Ok.ensures.roomier c.open.ensures (lane c.settle.new.ops)
    (subst (λ (x : Sight). SettlesTo c.args.sys.now (lane c.open.new.ops) (lane c.settle.new.ops) (Ok x)) c.in-Ok-Empty.field-0-is c.in-Ok-Empty.ensures)

pub returns-in-Ok-Entry-clause-passes : goal.returns-in-Ok-Entry-clause-passes
returns-in-Ok-Entry-clause-passes g c =
    let lane = g.O.Ops.lane in
    passes-found c.args.sys.now c.args.source.now c.open.new.source (lane c.args.ops.now) (lane c.look.new.ops) (lane c.ready.new.ops) (lane c.open.new.ops) c.requires.knows
    c.in_default.ensures.0 c.in_default.ensures.1 c.in-Ok.ensures.roomier c.open.ensures (lane c.settle.new.ops) c.in-Ok-Entry.object c.in-Ok-Entry.now
    (subst (λ (x : Sight). SettlesTo c.args.sys.now (lane c.open.new.ops) (lane c.settle.new.ops) (Ok x)) c.in-Ok-Entry.field-0-is c.in-Ok-Entry.ensures)

pub returns-in-Full-clause-passes : goal.returns-in-Full-clause-passes
returns-in-Full-clause-passes g c =
    let lane = g.O.Ops.lane in
    cut-stops c.args.sys.now c.args.source.now c.open.new.source (lane c.args.ops.now) (lane c.look.new.ops) (lane c.ready.new.ops) (lane c.open.new.ops) c.requires.knows
    c.in_default.ensures.0 c.in_default.ensures.1 c.in-Ok.ensures.roomier c.open.ensures (lane c.settle.new.ops) c.in-Err.ensures.0 (lane c.halt.new.ops) c.in-Full.ensures

pub returns-in-Memory-clause-passes : goal.returns-in-Memory-clause-passes
returns-in-Memory-clause-passes g c =
    let lane = g.O.Ops.lane in
    cut-starves c.args.sys.now c.args.source.now c.open.new.source (lane c.args.ops.now) (lane c.look.new.ops) (lane c.ready.new.ops) (lane c.open.new.ops) c.requires.knows
    c.in_default.ensures.0 c.in_default.ensures.1 c.in-Ok.ensures.roomier c.open.ensures (lane c.settle.new.ops) c.in-Err.ensures.0 (lane c.halt.new.ops) c.in-Memory.ensures

pub returns-in-Ok-Empty-clause-unset : goal.returns-in-Ok-Empty-clause-unset
returns-in-Ok-Empty-clause-unset g c = unset-before (g.O.Ops.lane c.args.ops.now) (g.O.Ops.lane c.look.new.ops) c.in_default.ensures.0 c.in-Ok.ensures.unset
