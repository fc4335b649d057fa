use Rattle.std.proofs.Common.{Some}
use Rattle.qp_calls.specs.Clauses.{entry_of}
use Rattle.qp_calls.proofs.Answering.{answers-room, forward-answers}
use Rattle.qp_calls.proofs.posts.forward.Goals as goal

pub returns : goal.returns
returns g c =
    let e = entry_of c.args.now.now in
    answers-room (Some e) _ c.post_entry.result _ (g.O.Ops.lane c.room.new.self) _ c.room.ensures.stays
    (forward-answers e c.args.to c.args.margin c.again-e.result c.post_entry.result _ _ _ c.again-e.ensures c.post_entry.ensures)
