use Rattle.std.proofs.Common.{refl, ap, arith}
use Rattle.qp_calls_log.specs.Lane.{spill_place}
use Rattle.qp_plain.proofs.BookLemmas.{places-change, lists-same}
use Rattle.qp_plain.proofs.book.Book.place.Goals as goal

pub make_place-requires-clause-none : goal.make_place-requires-clause-none
make_place-requires-clause-none c = omega (arith, c.if-self-gt0.false)

pub invariant_of-self-in_default-make_place : goal.invariant_of-self-in_default-make_place
invariant_of-self-in_default-make_place c =
    let s = c.args.self.now in
    let moved = places-change s.others.items s.at s.here c.make_place.new.self s.within in
    let place = ap spill_place c.in_default-make_place.ensures.spilled in
    let spare = c.in_default-make_place.ensures.refused in
    record {
      within = s.within;
      few = s.few;
      room = omega (arith, moved, place, spare, s.room, c.if-self-gt0.false);
      ordered = omega (arith, s.ordered, c.in-Ok.ensures.len, c.in-Ok.ensures.capacity);
    }

pub returns-in_default-make_place-clause-keeps : goal.returns-in_default-make_place-clause-keeps
returns-in_default-make_place-clause-keeps c =
    let s = c.args.self.now in
    let e = c.in_default-make_place.ensures in
    record {
      lists = lists-same s.others.items s.at s.here c.make_place.new.self e.recs;
      order = c.in-Ok.ensures.items;
      stays = record { others = refl; at = refl; stops = e.stops; answered = e.answered };
    }

pub invariant_of-self-2 : goal.invariant_of-self-2
invariant_of-self-2 c =
    let s = c.args.self.now in
    let moved = places-change s.others.items s.at s.here c.make_place.new.self s.within in
    let e = c.in-Ok-make_place.ensures in
    let place = ap spill_place e.spilled in
    record {
      within = s.within;
      few = s.few;
      room = omega (arith, moved, place, e.ok, s.room, c.if-self-gt0.false);
      ordered = omega (arith, e.ok, c.in-Ok.ensures.ok, c.in-Ok.ensures.len);
    }

pub returns-clause-keeps : goal.returns-clause-keeps
returns-clause-keeps c =
    let s = c.args.self.now in
    let e = c.in-Ok-make_place.ensures in
    record {
      lists = lists-same s.others.items s.at s.here c.make_place.new.self e.recs;
      order = c.in-Ok.ensures.items;
      stays = record { others = refl; at = refl; stops = e.stops; answered = e.answered };
    }
