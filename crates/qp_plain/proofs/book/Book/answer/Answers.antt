use Rattle.std.proofs.Common.{refl, ap, arith}
use Rattle.qp_calls_log.specs.Lane.{spill_place}
use Rattle.qp_plain.proofs.BookLemmas.{places-change, lists-same}
use Rattle.qp_plain.proofs.book.Book.answer.Goals as goal

pub invariant_of-self : goal.invariant_of-self
invariant_of-self c =
    let s = c.args.self.now in
    let e = c.answer.ensures in
    let moved = places-change s.others.items s.at s.here c.answer.new.self s.within in
    let place = ap spill_place e.spilled in
    record { within = s.within; few = s.few; room = omega (arith, moved, place, e.spare, s.room); ordered = s.ordered }

pub returns : goal.returns
returns c =
    let s = c.args.self.now in
    let e = c.answer.ensures in
    record {
      lists = lists-same s.others.items s.at s.here c.answer.new.self e.recs;
      order = refl;
      others = refl;
      at = refl;
      spare = e.spare;
      stops = e.stops;
      answered = e.found;
    }
