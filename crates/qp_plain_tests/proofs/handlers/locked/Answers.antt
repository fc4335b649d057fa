use Rattle.std.proofs.Common.{◌≤◌, refl, arith}
use Rattle.qp_calls.proofs.Noting.{may-note}
use Rattle.qp_plain_tests.proofs.DeedLemmas.{ok-of}
use Rattle.qp_plain_tests.proofs.HandlerLemmas.{locked-spare, locked-steady, steady-then, unlocked-ceiling, unlocked-steady}
use Rattle.qp_plain_tests.proofs.handlers.locked.Goals as goal

pub note-requires : goal.note-requires
note-requires g c = may-note c.args.o _ c.lock.result _ c.lock.ensures refl (let room = ok-of (8 ≤ _) _ c.room.result c.in_ok-ok.ensures.value c.room.ensures.ok in omega (arith, room))

pub note-requires-2 : goal.note-requires-2
note-requires-2 g c =
    let room = ok-of (8 ≤ _) _ c.room.result c.in_ok-ok.ensures.value c.room.ensures.ok in
    let spare = locked-spare c.args.o 1 c.lock.result (g.O.Ops.lane c.room.new.self) (g.O.Ops.lane c.note.new.self) c.lock.ensures c.note.ensures.spare in
    may-note c.args.o _ c.unlock.result _ c.unlock.ensures refl (omega (arith, room, spare))

pub returns : goal.returns
returns g c = (
  steady-then _ _ _ (locked-steady c.args.o 1 c.lock.result _ _ _ c.lock.ensures c.room.ensures.stays c.note.ensures.grows) (unlocked-steady c.args.o 0 c.unlock.result _ _ c.unlock.ensures c.note-2.ensures.grows),
  unlocked-ceiling c.args.o 0 c.unlock.result _ _ c.unlock.ensures c.note-2.ensures.grows,
)
