use Rattle.std.proofs.Common.{◌+◌, refl, sym, arith}
use Rattle.qp_model.specs.declared.bodies.Body.TheVariants as body
use Rattle.qp_calls.proofs.Noting.{adds-note, may-note}
use Rattle.qp_port_lanes.proofs.Turned.{few-begun}
use Rattle.qp_port_lanes.proofs.Opening.{opens-new, opens-still}
use Rattle.qp_port_lanes.proofs.passing.open.Goals as goal

pub returns-then-source : goal.returns-then-source
returns-then-source g c = opens-still c.args.sys.now c.args.source.now _ c.requires.knows c.if-source.true

pub overflow_add-place : goal.overflow_add-place
overflow_add-place g c =
    let few = few-begun c.args.sys.now c.args.source.now _ c.requires.knows c.if-source.false (g.met.O.Ops.within c.args.ops.now) in
    record { fits = omega (arith, few) }

pub note-requires : goal.note-requires
note-requires g c = may-note 0 (body.Stim (c.args.source.now.begun + 1) 0) c.stim.result _ c.stim.ensures refl c.requires.spare

pub returns : goal.returns
returns g c =
    opens-new c.args.sys.now c.args.source.now _ _ c.requires.knows c.if-source.false c.requires.stands
    (adds-note 0 (body.Stim (c.args.source.now.begun + 1) 0) c.stim.result _ _ c.stim.ensures refl (sym c.requires.knows.at.none) c.requires.spare c.note.ensures.grows c.note.ensures.spare)
