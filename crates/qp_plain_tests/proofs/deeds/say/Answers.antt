use Rattle.std.proofs.Common.{◌≤◌, refl, arith}
use Rattle.qp_calls.proofs.Noting.{may-note}
use Rattle.qp_plain_tests.proofs.DeedLemmas.{ok-of, said-steady}
use Rattle.qp_plain_tests.proofs.deeds.say.Goals as goal

pub note-requires : goal.note-requires
note-requires g c = may-note c.args.o _ c.say.result _ c.say.ensures refl (let room = ok-of (8 ≤ _) _ c.room.result c.in_ok-ok.ensures.value c.room.ensures.ok in omega (arith, room))

pub returns : goal.returns
returns g c = λ value. said-steady c.args.o _ c.say.result _ _ _ c.say.ensures c.room.ensures.stays c.note.ensures.grows
