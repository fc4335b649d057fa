use Rattle.std.proofs.Common.{refl, arith}
use Rattle.qp_model.specs.declared.bodies.Body.TheVariants.{Unlock}
use Rattle.qp_calls.proofs.Announcing.{lower-none, lower-some}
use Rattle.qp_calls.proofs.Noting.{adds-note, may-note, still-by, still-some}
use Rattle.qp_calls.proofs.SetBits.{members-some}
use Rattle.qp_calls.proofs.publishing.lower.Goals as goal

pub returns-then-all-eq0 : goal.returns-then-all-eq0
returns-then-all-eq0 g c = lower-none c.args.former c.args.all _ c.if-all-eq0.true

pub note-requires : goal.note-requires
note-requires g c = may-note _ (Unlock c.args.former) c.unlock.result _ c.unlock.ensures refl (still-some _ _ c.object-o.ensures.stays c.requires.room)

pub returns : goal.returns
returns g c =
    let room = still-some _ _ c.object-o.ensures.stays c.requires.room in
    let by = still-by c.object-o.result _ _ c.object-o.ensures.stays c.object-o.ensures.object in
    let some = members-some c.args.all (omega (arith, c.if-all-eq0.false)) c.ranges.all.fits in
    lower-some c.args.former c.args.all some.0 some.1 _ _ _ some.2 c.object-o.ensures.stays
    (adds-note c.object-o.result (Unlock c.args.former) c.unlock.result _ _ c.unlock.ensures refl by room c.note.ensures.grows c.note.ensures.spare)
