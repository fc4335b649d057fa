use Rattle.std.proofs.Common.{None, refl}
use Rattle.qp_model.specs.Parts.{is_static}
use Rattle.qp_calls.specs.Clauses.{event_of}
use Rattle.qp_calls.proofs.Answering.{answers-room, front-answers, static-here, unmade-front}
use Rattle.qp_calls.proofs.posts.lifo_new.Goals as goal

pub returns-in-Err : goal.returns-in-Err
returns-in-Err g c =
    let fixed = static-here _ _ c.args.sys.now c.args.ev.now.sig (is_static c.args.sys.now c.args.ev.now.sig) c.room.ensures.stays c.requires.of refl in
    answers-room None _ c.in-Err.did _ (g.O.Ops.lane c.room.new.self) _ c.room.ensures.stays
    (unmade-front None (event_of c.args.ev.now) c.args.reserve c.in-Err.did (is_static c.args.sys.now c.args.ev.now.sig) _ _ fixed c.in-Err.ensures)

pub returns-in-Ok : goal.returns-in-Ok
returns-in-Ok g c =
    let fixed = static-here _ _ c.args.sys.now c.args.ev.now.sig (is_static c.args.sys.now c.args.ev.now.sig) c.room.ensures.stays c.requires.of refl in
    answers-room None _ c.post_front.result _ (g.O.Ops.lane c.room.new.self) _ c.room.ensures.stays
    (front-answers None (event_of c.args.ev.now) c.args.reserve c.in-Ok.e c.post_front.result (is_static c.args.sys.now c.args.ev.now.sig) _ _ _ fixed c.in-Ok.ensures c.post_front.ensures)
