use Rattle.std.proofs.Common.{◌∷◌, ◌∙◌, ap, refl, arith, inl}
use Rattle.qp_model.specs.declared.bodies.Body.TheVariants as body
use Rattle.qp_calls_stimulus.specs.declared.doing.Stimulated.TheVariants as stimulated
use Rattle.qp_calls.proofs.Noting.{adds-note, may-note}
use Rattle.qp_calls_stimulus.proofs.Settled.{by-none}
use Rattle.qp_calls_stimulus.proofs.Begun.{asserts, cut-unspilled, cuts, halts-first, happens, keeps-own, tries}
use Rattle.qp_calls_stimulus.proofs.Telling.{tells-it, tells-none}
use Rattle.qp_calls_stimulus.proofs.doing.stimulus.Goals as goal

pub returns-in-Err-clause-stimulates : goal.returns-in-Err-clause-stimulates
returns-in-Err-clause-stimulates g c = halts-first c.args.sys.now c.args.s.now c.args.place c.args.look _ _ _ c.give_up.result c.in-Err.ensures.refused c.give_up.ensures

pub note-requires : goal.note-requires
note-requires g c = may-note 0 (body.Stim c.args.place c.args.look) c.stim.result _ c.stim.ensures refl (omega (arith, c.in_default.ensures.ok))

pub give_up-requires-in-Err-make-clause-spills : goal.give_up-requires-in-Err-make-clause-spills
give_up-requires-in-Err-make-clause-spills g c =
    let lane = g.O.Ops.lane in
    cut-unspilled c.args.sys.now c.args.s.now c.args.place c.args.look _ (lane c.room.new.self) (lane c.note.new.self) c.in_default.ensures.stays
    (adds-note 0 (body.Stim c.args.place c.args.look) c.stim.result _ _ c.stim.ensures refl (by-none _ _ c.in_default.ensures.stays c.requires.none) (omega (arith, c.in_default.ensures.ok))
    c.note.ensures.grows c.note.ensures.spare) _ c.requires.spills c.in-Err-make.ensures.0

pub returns-in-Ok-Whole-clause-stimulates : goal.returns-in-Ok-Whole-clause-stimulates
returns-in-Ok-Whole-clause-stimulates g c =
    let lane = g.O.Ops.lane in
    happens c.args.sys.now c.args.s.now c.args.place c.args.look _ (lane c.room.new.self) (lane c.note.new.self) c.in_default.ensures.stays
    (adds-note 0 (body.Stim c.args.place c.args.look) c.stim.result _ _ c.stim.ensures refl (by-none _ _ c.in_default.ensures.stays c.requires.none) (omega (arith, c.in_default.ensures.ok))
    c.note.ensures.grows c.note.ensures.spare) c.in-Ok-Whole.field-0 _ c.in-Ok-Whole.field-0-is c.in-Ok-Whole.ensures

pub returns-in-Ok-Tried-clause-stimulates : goal.returns-in-Ok-Tried-clause-stimulates
returns-in-Ok-Tried-clause-stimulates g c =
    let lane = g.O.Ops.lane in
    tries c.args.sys.now c.args.s.now c.args.place c.args.look _ (lane c.room.new.self) (lane c.note.new.self) c.in_default.ensures.stays
    (adds-note 0 (body.Stim c.args.place c.args.look) c.stim.result _ _ c.stim.ensures refl (by-none _ _ c.in_default.ensures.stays c.requires.none) (omega (arith, c.in_default.ensures.ok))
    c.note.ensures.grows c.note.ensures.spare) c.in-Ok-Tried.field-0 _ c.in-Ok-Tried.field-0-is c.in-Ok-Tried.ensures

pub returns-in-Ok-Asserted-clause-stimulates : goal.returns-in-Ok-Asserted-clause-stimulates
returns-in-Ok-Asserted-clause-stimulates g c =
    let lane = g.O.Ops.lane in
    inl
    (asserts c.args.sys.now c.args.s.now c.args.place c.args.look _ (lane c.room.new.self) (lane c.note.new.self) c.in_default.ensures.stays
    (adds-note 0 (body.Stim c.args.place c.args.look) c.stim.result _ _ c.stim.ensures refl (by-none _ _ c.in_default.ensures.stays c.requires.none) (omega (arith, c.in_default.ensures.ok))
    c.note.ensures.grows c.note.ensures.spare) c.in-Ok-Asserted.field-0 c.in-Ok-Asserted.code (lane c.make.new.ops) _ c.in-Ok-Asserted.field-0-is c.in-Ok-Asserted.ensures c.stop.ensures)

pub returns-in-Err-make-clause-stimulates : goal.returns-in-Err-make-clause-stimulates
returns-in-Err-make-clause-stimulates g c =
    let lane = g.O.Ops.lane in
    cuts c.args.sys.now c.args.s.now c.args.place c.args.look _ (lane c.room.new.self) (lane c.note.new.self) c.in_default.ensures.stays
    (adds-note 0 (body.Stim c.args.place c.args.look) c.stim.result _ _ c.stim.ensures refl (by-none _ _ c.in_default.ensures.stays c.requires.none) (omega (arith, c.in_default.ensures.ok))
    c.note.ensures.grows c.note.ensures.spare) (lane c.make.new.ops) _ c.give_up-in-Err-make.result c.in-Err-make.ensures.0 c.give_up-in-Err-make.ensures

pub returns-in-Err-clause-own : goal.returns-in-Err-clause-own
returns-in-Err-clause-own g c = keeps-own c.args.sys.now c.args.s.now c.args.place c.args.look _ _ c.give_up.result (returns-in-Err-clause-stimulates g c)

pub returns-in-Ok-Whole-clause-own : goal.returns-in-Ok-Whole-clause-own
returns-in-Ok-Whole-clause-own g c = keeps-own c.args.sys.now c.args.s.now c.args.place c.args.look _ _ stimulated.Done (returns-in-Ok-Whole-clause-stimulates g c)

pub returns-in-Ok-Tried-clause-own : goal.returns-in-Ok-Tried-clause-own
returns-in-Ok-Tried-clause-own g c = keeps-own c.args.sys.now c.args.s.now c.args.place c.args.look _ _ stimulated.Tried (returns-in-Ok-Tried-clause-stimulates g c)

pub returns-in-Ok-Asserted-clause-own : goal.returns-in-Ok-Asserted-clause-own
returns-in-Ok-Asserted-clause-own g c = keeps-own c.args.sys.now c.args.s.now c.args.place c.args.look _ _ stimulated.Stopped (returns-in-Ok-Asserted-clause-stimulates g c)

pub returns-in-Err-make-clause-own : goal.returns-in-Err-make-clause-own
returns-in-Err-make-clause-own g c = keeps-own c.args.sys.now c.args.s.now c.args.place c.args.look _ _ c.give_up-in-Err-make.result (returns-in-Err-make-clause-stimulates g c)

pub returns-in-Err-clause-tells : goal.returns-in-Err-clause-tells
returns-in-Err-clause-tells g c =
    let lane = g.O.Ops.lane in
    tells-none c.args.place (lane c.args.ops.now) (lane c.room.new.self) (lane c.give_up.new.ops) c.args.gate.now.steps.list c.give_up.result c.in-Err.ensures.refused c.give_up.ensures

pub returns-in-Err-make-clause-tells : goal.returns-in-Err-make-clause-tells
returns-in-Err-make-clause-tells g c =
    let lane = g.O.Ops.lane in
    tells-it c.args.place (lane c.args.ops.now) (lane c.give_up-in-Err-make.new.ops) c.args.gate.now.steps.list c.tells.new.self.steps.list c.give_up-in-Err-make.result (c.tells.ensures ∙ ap (λ n. n ∷ c.args.gate.now.steps.list) c.from.ensures)
