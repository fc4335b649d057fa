use Rattle.qp_dispatch.proofs.PartLemmas.{note-here, noted}
use Rattle.qp_dispatch.proofs.marks.note.Goals as goal

pub note-requires : goal.note-requires
note-requires g c = let lane = g.O.Ops.lane in note-here c.args.r (lane c.args.ops.now) (lane c.room.new.self) c.room.ensures.stays c.requires.note c.in_ok-room.ensures.ok

pub returns-clause-ok : goal.returns-clause-ok
returns-clause-ok g c =
    let lane = g.O.Ops.lane in
    noted c.args.r (lane c.args.ops.now) (lane c.room.new.self) (lane c.note.new.self) c.room.ensures.stays c.requires.note c.requires.mine c.in_ok-room.ensures.ok c.note.ensures.grows c.note.ensures.spare
