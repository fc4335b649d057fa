use Rattle.std.proofs.Common.{rules, ◌≤◌, refl, sym}
use Rattle.qp_check_course.proofs.AnswerLemmas.{object-of}
use Rattle.qp_check_course.proofs.decide.actor_of.Goals as goal

pub returns-in-Some : goal.returns-in-Some
returns-in-Some c =
    let room : c.room_of-room.result ≤ 255 = search rules in
    record {
      system = refl;
      found = sym c.in-Some.ensures;
      object = object-of c.args.d.now c.in-Some.chart.now c.room_of-room.result c.room_of-room.ensures;
      room = rw (sym c.room_of-room.ensures) room;
    }
