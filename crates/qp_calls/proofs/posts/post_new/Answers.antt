use Rattle.std.proofs.Common.{false, None}
use Rattle.qp_calls.specs.Clauses.{event_of}
use Rattle.qp_calls.proofs.Answering.{answers-room, post-answers, static-here, unmade-answers}
use Rattle.qp_calls.proofs.posts.post_new.Goals as goal

pub returns-in-Err : goal.returns-in-Err
returns-in-Err g c =
    let fixed = static-here _ _ c.args.sys.now c.args.ev.now.sig false c.room.ensures.stays c.requires.of c.requires.pooled in
    answers-room None _ c.in-Err.did _ (g.O.Ops.lane c.room.new.self) _ c.room.ensures.stays
    (unmade-answers None c.args.to (event_of c.args.ev.now) c.args.margin c.args.reserve c.in-Err.did false _ _ fixed c.in-Err.ensures)

pub returns-in-Ok : goal.returns-in-Ok
returns-in-Ok g c =
    let fixed = static-here _ _ c.args.sys.now c.args.ev.now.sig false c.room.ensures.stays c.requires.of c.requires.pooled in
    answers-room None _ c.post_entry.result _ (g.O.Ops.lane c.room.new.self) _ c.room.ensures.stays
    (post-answers None c.args.to (event_of c.args.ev.now) c.args.margin c.args.reserve c.in-Ok.e c.post_entry.result false _ _ _ fixed c.in-Ok.ensures c.post_entry.ensures)
