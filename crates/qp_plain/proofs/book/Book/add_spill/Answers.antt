use Rattle.std.proofs.Common.{refl, ap, arith}
use Rattle.qp_calls_log.specs.Lane.{spill_place}
use Rattle.qp_plain.proofs.BookLemmas.{places-here, places-change, grown-here}
use Rattle.qp_plain.proofs.book.Book.add_spill.Goals as goal

pub push_reserved-requires : goal.push_reserved-requires
push_reserved-requires c =
    let s = c.args.self.now in
    let le = places-here s.others.items s.at s.here s.within in
    let place = ap spill_place c.requires.first in
    omega (arith, le, s.room, s.ordered, place)

pub overflow_sub-self : goal.overflow_sub-self
overflow_sub-self c =
    let s = c.args.self.now in
    let le = places-here s.others.items s.at s.here s.within in
    let place = ap spill_place c.requires.first in
    omega (arith, le, s.room, place)

pub invariant_of-self : goal.invariant_of-self
invariant_of-self c =
    let s = c.args.self.now in
    let le = places-here s.others.items s.at s.here s.within in
    let place = ap spill_place c.requires.first in
    let moved = places-change s.others.items s.at s.here c.add_spill.new.self s.within in
    let now = ap spill_place c.add_spill.ensures.spilled in
    record {
      within = s.within;
      few = s.few;
      room = omega (arith, le, moved, place, now, s.room, c.add_spill.ensures.spare);
      ordered = omega (arith, le, s.room, s.ordered, place, c.push_reserved.ensures.len, c.push_reserved.ensures.capacity);
    }

pub returns-clause-gains : goal.returns-clause-gains
returns-clause-gains c =
    let s = c.args.self.now in
    record {
      grown = grown-here s.others.items s.at s.here c.add_spill.new.self c.args.rec s.order.items c.push_reserved.new.self.items s.within c.add_spill.ensures.recs c.push_reserved.ensures.items;
      stays = record { others = refl; at = refl; stops = c.add_spill.ensures.stops; answered = c.add_spill.ensures.answered };
    }
