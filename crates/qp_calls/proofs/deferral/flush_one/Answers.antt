use Rattle.std.proofs.Common.{refl, arith}
use Rattle.qp_model.specs.declared.bodies.Body.TheVariants.{Flush}
use Rattle.qp_calls.specs.Clauses.{entry_of}
use Rattle.qp_calls.proofs.Noting.{adds-stated, may-note, still-by, still-room}
use Rattle.qp_calls.proofs.Recalling.{flushed-one, flushed-stands, front-stands_here, popped, popped-cap}
use Rattle.qp_calls.proofs.deferral.flush_one.Goals as goal

pub note-requires : goal.note-requires
note-requires g c =
    let room = still-room _ _ c.object-o.ensures.stays c.in_ok-room.ensures.ok in
    may-note _ (Flush c.stated.result) c.flush.result _ c.flush.ensures refl (omega (arith, room))

pub drop_entry-requires-clause-room : goal.drop_entry-requires-clause-room
drop_entry-requires-clause-room g c =
    let room = still-room _ _ c.object-o.ensures.stays c.in_ok-room.ensures.ok in
    let by = still-by c.object-o.result _ _ c.object-o.ensures.stays c.object-o.ensures.object in
    let noted =
    adds-stated Flush c.object-o.result c.stated.result (entry_of c.in-Some.k) c.flush.result _ _ c.stated.ensures c.flush.ensures refl by (omega (arith, room)) c.note.ensures.grows c.note.ensures.spare in
    omega (arith, room, noted.spare)

pub drop_entry-requires-clause-stands : goal.drop_entry-requires-clause-stands
drop_entry-requires-clause-stands g c =
    let room = still-room _ _ c.object-o.ensures.stays c.in_ok-room.ensures.ok in
    let by = still-by c.object-o.result _ _ c.object-o.ensures.stays c.object-o.ensures.object in
    flushed-stands c.in-Some.k _ _
    (adds-stated Flush c.object-o.result c.stated.result (entry_of c.in-Some.k) c.flush.result _ _ c.stated.ensures c.flush.ensures refl by (omega (arith, room)) c.note.ensures.grows c.note.ensures.spare)
    (front-stands_here c.args.list.now.entries.items c.in-Some.k _ (g.O.Ops.lane c.room.new.self) _ c.room.ensures.stays c.object-o.ensures.stays c.in-Some.ensures.value c.requires.kept)

pub returns-in-Some : goal.returns-in-Some
returns-in-Some g c =
    let lane = g.O.Ops.lane in
    let room = still-room _ _ c.object-o.ensures.stays c.in_ok-room.ensures.ok in
    let by = still-by c.object-o.result _ _ c.object-o.ensures.stays c.object-o.ensures.object in
    flushed-one c.in-Some.k c.args.list.now _ _ (lane c.room.new.self) (lane c.object-o.new.ops) (lane c.note.new.self) (lane c.drop_entry.new.ops) c.room.ensures.stays c.object-o.ensures.stays
    (adds-stated Flush c.object-o.result c.stated.result (entry_of c.in-Some.k) c.flush.result _ _ c.stated.ensures c.flush.ensures refl by (omega (arith, room)) c.note.ensures.grows c.note.ensures.spare)
    c.drop_entry.ensures.released (popped c.args.list.now.entries _ c.in-Some.k c.in-Some.ensures.value c.pop_front.ensures.items) (popped-cap c.args.list.now.entries _ c.pop_front.ensures.items)
