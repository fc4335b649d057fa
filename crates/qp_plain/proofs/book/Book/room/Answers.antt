use Rattle.std.proofs.Common.{refl, ap, arith}
use Rattle.qp_model.specs.History.{lane_items}
use Rattle.qp_calls_log.specs.Lane.{spill_place}
use Rattle.qp_plain.proofs.BookLemmas.{places-change, lists-same}
use Rattle.qp_calls_log.proofs.LogLemmas.{length-kinds}
use Rattle.qp_plain.proofs.book.Book.room.Goals as goal
use Rattle.qp_model.proofs.RecordLemmas.{lane-length}

pub overflow_cast-result : goal.overflow_cast-result
overflow_cast-result c =
    let g = c.args.self.now.here in
    let all = length-kinds (lane_items g.recs.items) in
    let long = lane-length g.recs.items in
    let len = g.recs.ok in
    record { fits = omega (arith, all, long, g.few, g.spills, c.len-len.ensures, len.0) }

pub invariant_of-self-in_default-make_room : goal.invariant_of-self-in_default-make_room
invariant_of-self-in_default-make_room c =
    let s = c.args.self.now in
    let moved = places-change s.others.items s.at s.here c.make_room.new.self s.within in
    let place = ap spill_place c.in_default-make_room.ensures.spilled in
    let spare = c.in_default-make_room.ensures.refused in
    record {
      within = s.within;
      few = s.few;
      room = omega (arith, moved, place, spare, s.room);
      ordered = omega (arith, s.ordered, c.in-Ok.ensures.len, c.in-Ok.ensures.capacity);
    }

pub returns-in_default-make_room-clause-keeps : goal.returns-in_default-make_room-clause-keeps
returns-in_default-make_room-clause-keeps c =
    let s = c.args.self.now in
    let e = c.in_default-make_room.ensures in
    record {
      lists = lists-same s.others.items s.at s.here c.make_room.new.self e.recs;
      order = c.in-Ok.ensures.items;
      stays = record { others = refl; at = refl; stops = e.stops; answered = e.answered };
    }

pub invariant_of-self-2 : goal.invariant_of-self-2
invariant_of-self-2 c =
    let s = c.args.self.now in
    let moved = places-change s.others.items s.at s.here c.make_room.new.self s.within in
    let e = c.in-Ok-make_room.ensures in
    let place = ap spill_place e.spilled in
    record {
      within = s.within;
      few = s.few;
      room = omega (arith, moved, place, e.ok.0, e.ok.1, s.room);
      ordered = omega (arith, e.ok.0, c.in-Ok.ensures.ok, c.in-Ok.ensures.len);
    }

pub returns-clause-keeps : goal.returns-clause-keeps
returns-clause-keeps c =
    let s = c.args.self.now in
    let e = c.in-Ok-make_room.ensures in
    record {
      lists = lists-same s.others.items s.at s.here c.make_room.new.self e.recs;
      order = c.in-Ok.ensures.items;
      stays = record { others = refl; at = refl; stops = e.stops; answered = e.answered };
    }
