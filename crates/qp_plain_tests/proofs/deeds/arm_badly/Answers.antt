use Rattle.std.proofs.Common.{◌≤◌, arith}
use Rattle.qp_plain_tests.proofs.DeedLemmas.{ok-of, may-refuse}
use Rattle.qp_plain_tests.proofs.deeds.arm_badly.Goals as goal

pub note-requires : goal.note-requires
note-requires g c = may-refuse c.args.o c.args.timer c.bad_ticks.result _ c.bad_ticks.ensures (let room = ok-of (8 ≤ _) _ c.room.result c.in_ok-ok.ensures.value c.room.ensures.ok in omega (arith, room))
