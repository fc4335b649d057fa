use Rattle.std.proofs.Common.{[], ◌∷◌, refl, subst}
use Rattle.qp_model.specs.declared.bodies.Body.TheVariants.{Lock}
use Rattle.qp_model.specs.Told.{raised}
use Rattle.qp_calls.specs.LaneView.{AddsTold, ceiling_in}
use Rattle.qp_calls.proofs.Announcing.{raise-none, raise-some}
use Rattle.qp_calls.proofs.Noting.{adds-note, may-note, still-by, still-some}
use Rattle.qp_calls.proofs.publishing.raise.Goals as goal

pub returns-then-all-eq0 : goal.returns-then-all-eq0
returns-then-all-eq0 g c = raise-none c.args.former c.args.all _ c.if-all-eq0.true

pub note-requires : goal.note-requires
note-requires g c = may-note _ (Lock c.max.result) c.lock.result _ c.lock.ensures refl (still-some _ _ c.object-o.ensures.stays c.requires.room)

pub returns : goal.returns
returns g c =
    let lane = g.O.Ops.lane in
    let room = still-some _ _ c.object-o.ensures.stays c.requires.room in
    let by = still-by c.object-o.result _ _ c.object-o.ensures.stays c.object-o.ensures.object in
    let noted = adds-note c.object-o.result (Lock c.max.result) c.lock.result _ _ c.lock.ensures refl by room c.note.ensures.grows c.note.ensures.spare in
    raise-some c.args.former c.args.all c.highest-top.result.0 c.highest-top.result.1 _ _ _ c.highest-top.ensures.first c.object-o.ensures.stays c.requires.former
    (subst (λ x. AddsTold (raised x (ceiling_in 0 (lane c.object-o.new.ops).told) ∷ []) (lane c.object-o.new.ops) (lane c.note.new.self)) c.max.ensures noted)
