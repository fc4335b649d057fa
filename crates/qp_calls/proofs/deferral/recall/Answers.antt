use Rattle.std.proofs.Common.{refl, arith}
use Rattle.qp_model.specs.declared.bodies.Body.TheVariants.{NoRecall}
use Rattle.qp_calls.proofs.Noting.{adds-note, may-note, still-by, still-room}
use Rattle.qp_calls.proofs.Recalling.{front-stands_here, none-is, popped, popped-cap, popped-none, recall-kept, recall-none}
use Rattle.qp_calls.proofs.deferral.recall.Goals as goal

pub note-requires : goal.note-requires
note-requires g c =
    let room = still-room _ _ c.object-o.ensures.stays c.in_ok-room.ensures.ok in
    may-note _ NoRecall c.no_recall.result _ c.no_recall.ensures refl (omega (arith, room))

pub recall_entry-requires-clause-stands : goal.recall_entry-requires-clause-stands
recall_entry-requires-clause-stands g c =
    front-stands_here c.args.list.now.entries.items c.in-Some.k _ (g.O.Ops.lane c.room.new.self) _ c.room.ensures.stays c.object-o.ensures.stays c.in-Some.ensures.value c.requires.kept

pub returns-in-None : goal.returns-in-None
returns-in-None g c =
    let lane = g.O.Ops.lane in
    let room = still-room _ _ c.object-o.ensures.stays c.in_ok-room.ensures.ok in
    let by = still-by c.object-o.result _ _ c.object-o.ensures.stays c.object-o.ensures.object in
    let none = none-is c.args.list.now.entries.items c.in-None.ensures.value in
    recall-none c.args.list.now _ _ (lane c.room.new.self) (lane c.object-o.new.ops) (lane c.note.new.self) c.room.ensures.stays c.object-o.ensures.stays
    (adds-note c.object-o.result NoRecall c.no_recall.result _ _ c.no_recall.ensures refl by (omega (arith, room)) c.note.ensures.grows c.note.ensures.spare)
    none (popped-none c.args.list.now.entries _ c.pop_front.ensures.items none) (popped-cap c.args.list.now.entries _ c.pop_front.ensures.items) c.requires.kept

pub returns-in-Some : goal.returns-in-Some
returns-in-Some g c =
    let lane = g.O.Ops.lane in
    recall-kept c.in-Some.k c.args.list.now _ c.recall_entry.result _ (lane c.room.new.self) (lane c.object-o.new.ops) (lane c.recall_entry.new.ops) c.room.ensures.stays c.object-o.ensures.stays
    c.recall_entry.ensures (popped c.args.list.now.entries _ c.in-Some.k c.in-Some.ensures.value c.pop_front.ensures.items) (popped-cap c.args.list.now.entries _ c.pop_front.ensures.items)
    c.requires.kept
