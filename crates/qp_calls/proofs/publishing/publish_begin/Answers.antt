use Rattle.std.proofs.Common.{◌∙◌, refl, sym}
use Rattle.qp_model.specs.Parts.{is_static}
use Rattle.qp_calls.specs.Clauses.{event_of}
use Rattle.qp_calls.proofs.Answering.{static-here}
use Rattle.qp_calls.proofs.Announcing.{announced-ceiling, begins-going, unmade-room}
use Rattle.qp_calls.proofs.publishing.publish_begin.Goals as goal

pub raise-requires-clause-former : goal.raise-requires-clause-former
raise-requires-clause-former g c =
    c.requires.ceiling
    ∙ sym (announced-ceiling (is_static c.args.sys.now c.args.ev.now.sig) (event_of c.args.ev.now) c.args.reserve c.in-Ok.entry c.in-Ok.all _ (g.O.Ops.lane c.room.new.self) _ c.room.ensures.stays c.in-Ok.ensures)

pub returns-in-Err : goal.returns-in-Err
returns-in-Err g c =
    let fixed = is_static c.args.sys.now c.args.ev.now.sig in
    let here = static-here _ _ c.args.sys.now c.args.ev.now.sig fixed c.room.ensures.stays c.requires.of refl in
    unmade-room (event_of c.args.ev.now) c.args.reserve c.in-Err.did fixed _ (g.O.Ops.lane c.room.new.self) _ c.room.ensures.stays here c.in-Err.ensures

pub returns-in-Ok : goal.returns-in-Ok
returns-in-Ok g c =
    let fixed = is_static c.args.sys.now c.args.ev.now.sig in
    let here = static-here _ _ c.args.sys.now c.args.ev.now.sig fixed c.room.ensures.stays c.requires.of refl in
    begins-going (event_of c.args.ev.now) c.args.reserve c.in-Ok.entry c.in-Ok.all c.args.ceiling fixed _ _ (g.O.Ops.lane c.room.new.self) (g.O.Ops.lane c.announce.new.ops) _ c.room.ensures.stays here
    c.in-Ok.ensures c.raise.ensures refl
