use Rattle.std.proofs.Common.{refl, arith}
use Rattle.qp_model.specs.declared.bodies.Body.TheVariants.{Recall}
use Rattle.qp_calls.specs.Clauses.{entry_of}
use Rattle.qp_calls.proofs.Noting.{adds-stated, may-note}
use Rattle.qp_calls.proofs.Recalling.{recall_noted-stands, recalled-assert, recalled-left, recalled-stands, recalled-value}
use Rattle.qp_calls.proofs.deferral.recall_entry.Goals as goal

pub note-requires : goal.note-requires
note-requires g c = may-note _ (Recall c.stated.result) c.recall.result _ c.recall.ensures refl (omega (arith, c.requires.room))

pub again-e-requires-clause-room : goal.again-e-requires-clause-room
again-e-requires-clause-room g c =
    let noted =
    adds-stated Recall c.args.o c.stated.result (entry_of c.args.k) c.recall.result _ _ c.stated.ensures c.recall.ensures refl c.requires.mine (omega (arith, c.requires.room)) c.note.ensures.grows
    c.note.ensures.spare in
    omega (arith, c.requires.room, noted.spare)

pub again-e-requires-clause-stands : goal.again-e-requires-clause-stands
again-e-requires-clause-stands g c =
    recall_noted-stands c.args.k _ _
    (adds-stated Recall c.args.o c.stated.result (entry_of c.args.k) c.recall.result _ _ c.stated.ensures c.recall.ensures refl c.requires.mine (omega (arith, c.requires.room)) c.note.ensures.grows
    c.note.ensures.spare)
    c.requires.stands

pub post_front-requires-clause-room : goal.post_front-requires-clause-room
post_front-requires-clause-room g c =
    let noted =
    adds-stated Recall c.args.o c.stated.result (entry_of c.args.k) c.recall.result _ _ c.stated.ensures c.recall.ensures refl c.requires.mine (omega (arith, c.requires.room)) c.note.ensures.grows
    c.note.ensures.spare in
    omega (arith, c.requires.room, noted.spare, c.again-e.ensures.spare)

pub drop_entry-requires-clause-room : goal.drop_entry-requires-clause-room
drop_entry-requires-clause-room g c =
    let noted =
    adds-stated Recall c.args.o c.stated.result (entry_of c.args.k) c.recall.result _ _ c.stated.ensures c.recall.ensures refl c.requires.mine (omega (arith, c.requires.room)) c.note.ensures.grows
    c.note.ensures.spare in
    omega (arith, c.requires.room, noted.spare, c.again-e.ensures.spare, c.post_front.ensures.spare)

pub drop_entry-requires-clause-stands : goal.drop_entry-requires-clause-stands
drop_entry-requires-clause-stands g c =
    recalled-stands c.args.k c.again-e.result c.in-Value.n _ _ _ _
    (adds-stated Recall c.args.o c.stated.result (entry_of c.args.k) c.recall.result _ _ c.stated.ensures c.recall.ensures refl c.requires.mine (omega (arith, c.requires.room)) c.note.ensures.grows
    c.note.ensures.spare)
    c.again-e.ensures c.in-Value.ensures c.requires.stands

pub leave-requires : goal.leave-requires
leave-requires g c =
    recalled-left c.args.k c.again-e.result c.in-Assert.code _ _ _ _
    (adds-stated Recall c.args.o c.stated.result (entry_of c.args.k) c.recall.result _ _ c.stated.ensures c.recall.ensures refl c.requires.mine (omega (arith, c.requires.room)) c.note.ensures.grows
    c.note.ensures.spare)
    c.again-e.ensures c.in-Assert.ensures c.requires.stands

pub returns-in-Value : goal.returns-in-Value
returns-in-Value g c =
    recalled-value c.args.k c.again-e.result c.in-Value.n _ _ _ _ _
    (adds-stated Recall c.args.o c.stated.result (entry_of c.args.k) c.recall.result _ _ c.stated.ensures c.recall.ensures refl c.requires.mine (omega (arith, c.requires.room)) c.note.ensures.grows
    c.note.ensures.spare)
    c.again-e.ensures c.in-Value.ensures c.drop_entry.ensures.released

pub returns-in-Assert : goal.returns-in-Assert
returns-in-Assert g c =
    recalled-assert c.args.k c.again-e.result c.in-Assert.code _ _ _ _ _
    (adds-stated Recall c.args.o c.stated.result (entry_of c.args.k) c.recall.result _ _ c.stated.ensures c.recall.ensures refl c.requires.mine (omega (arith, c.requires.room)) c.note.ensures.grows
    c.note.ensures.spare)
    c.again-e.ensures c.in-Assert.ensures c.leave.ensures
