use Rattle.std.proofs.Common.{◌≤◌, refl, arith}
use Rattle.qp_model.specs.declared.bodies.Body.TheVariants.{Rest}
use Rattle.qp_calls.proofs.Noting.{may-note}
use Rattle.qp_plain_tests.proofs.DeedLemmas.{ok-of}
use Rattle.qp_plain_tests.proofs.lanes.fill.Goals as goal

pub note-requires : goal.note-requires
note-requires g c = may-note 0 (Rest 1) c.rest.result _ c.rest.ensures refl (let room = ok-of (8 ≤ _) _ c.room.result c.in_ok-ok.ensures.value c.room.ensures.ok in omega (arith, room))
