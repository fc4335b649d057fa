use Rattle.std.proofs.Common.{refl, arith}
use Rattle.qp_model.specs.declared.bodies.Body.TheVariants.{Rest}
use Rattle.qp_calls.proofs.Noting.{may-note}
use Rattle.qp_plain_tests.proofs.StepLanes.{base-rest}
use Rattle.qp_plain_tests.proofs.step_trial.note.Goals as goal

pub note-requires : goal.note-requires
note-requires g c = may-note 0 (Rest 0) c.rest.result _ c.rest.ensures refl (omega (arith, c.in-Ok.ensures.ok))

pub returns : goal.returns
returns g c = base-rest c.args.sys.now 0 0 0 c.rest.result _ _ _ c.rest.ensures c.room.ensures.stays c.note.ensures.grows c.requires
