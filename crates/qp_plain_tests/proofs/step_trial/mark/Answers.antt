use Rattle.std.proofs.Common.{refl, arith}
use Rattle.qp_model.specs.declared.bodies.Body.TheVariants.{Look}
use Rattle.qp_calls.proofs.Noting.{may-note}
use Rattle.qp_plain_tests.proofs.ActorLemmas.{marked}
use Rattle.qp_plain_tests.proofs.step_trial.mark.Goals as goal

pub note-requires : goal.note-requires
note-requires g c = may-note 0 (Look c.saturating_add-actor.result c.args.actor.now.ceiling) c.look.result _ c.look.ensures refl (omega (arith, c.in-Ok.ensures.ok))

pub returns : goal.returns
returns g c =
    marked c.args.sys.now c.args.actor.now c.saturating_add-actor.result c.saturating_add-actor.result c.args.actor.now.ceiling c.look.result _ _ _ c.requires c.room.ensures.stays c.look.ensures c.note.ensures.grows
