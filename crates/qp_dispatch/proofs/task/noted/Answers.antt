use Rattle.std.proofs.Common.{None, [], ◌∷◌}
use Rattle.qp_dispatch.proofs.PartLemmas.{cut-still, goes-note, is-noted, rec-mine, rec-note, rec-told}
use Rattle.qp_dispatch.proofs.task.noted.Goals as goal

pub note-requires-clause-mine : goal.note-requires-clause-mine
note-requires-clause-mine g c = let n = c.requires.note in rec-mine c.args.me n.1 c.args.r (g.O.Ops.lane c.args.ops.now) n.3 c.requires.mine

pub note-requires-clause-note : goal.note-requires-clause-note
note-requires-clause-note g c = let n = c.requires.note in rec-note c.args.me n.1 c.args.r n.3 (is-noted n.0 n.1 (g.O.Ops.lane c.args.ops.now) n.2)

pub returns-in-Ok : goal.returns-in-Ok
returns-in-Ok g c = λ at t b ceiling k is made.
    let lane = g.O.Ops.lane in
    goes-note c.args.me ceiling at t b k (lane c.args.ops.now) (lane c.note.new.ops) is (rec-told c.args.me b c.args.r (lane c.args.ops.now) (lane c.note.new.ops) made c.in-Ok.ensures.ok)

pub returns-in-Err : goal.returns-in-Err
returns-in-Err g c = λ at t b ceiling k is made.
    let lane = g.O.Ops.lane in
    cut-still c.args.me at (t ∷ []) k None c.in-Err.fault (lane c.args.ops.now) (lane c.note.new.ops) c.in-Err.ensures.err
