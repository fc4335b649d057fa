use Rattle.std.proofs.Common.{refl, subst, sym}
use Rattle.std.proofs.lemmas.Result.{err_from_is_err_and}
use Rattle.qp_model.specs.Parts.{is_static}
use Rattle.qp_model.specs.Sound.{IsSound}
use Rattle.qp_calls.specs.Clauses.{IsEvent, event_of}
use Rattle.qp_calls.proofs.Flushing.{fault-still}
use Rattle.qp_calls.proofs.Answering.{static-here}
use Rattle.qp_calls.proofs.Announcing.{unmade-publish}
use Rattle.qp_calls.proofs.Sending.{publish-all, publish-none}
use Rattle.qp_calls.proofs.publishing.publish.Goals as goal

pub returns-in_err-room : goal.returns-in_err-room
returns-in_err-room g c =
    let p = err_from_is_err_and c.from_residual.result c.from_residual.ensures.1 in
    let e = c.in_err-room.ensures in
    rw (p.1, p.2) (
      publish-none (event_of c.args.ev.now) c.args.reserve _ _ (subst (λ s. IsSound s) (sym c.requires.of) c.requires.sound)
          (subst (λ s. IsEvent s (event_of c.args.ev.now)) (sym c.requires.of) c.requires.event) e.refused,
      fault-still c.in_err-room.field-0.0 _ _ e.refused e.err,
    )

pub returns-in-Err : goal.returns-in-Err
returns-in-Err g c =
    let fixed = is_static c.args.sys.now c.args.ev.now.sig in
    let here = static-here _ _ c.args.sys.now c.args.ev.now.sig fixed c.room.ensures.stays c.requires.of refl in
    unmade-publish 0 (event_of c.args.ev.now) c.args.reserve c.in-Err.did fixed _ (g.O.Ops.lane c.room.new.self) _ c.room.ensures.stays here c.in-Err.ensures

pub returns-in-Ok : goal.returns-in-Ok
returns-in-Ok g c =
    let fixed = is_static c.args.sys.now c.args.ev.now.sig in
    let here = static-here _ _ c.args.sys.now c.args.ev.now.sig fixed c.room.ensures.stays c.requires.of refl in
    publish-all (event_of c.args.ev.now) c.args.reserve c.in-Ok.entry c.in-Ok.all fixed _ (g.O.Ops.lane c.room.new.self) (g.O.Ops.lane c.announce.new.ops) _ c.room.ensures.stays here c.in-Ok.ensures
    c.post_all.result c.post_all.ensures
