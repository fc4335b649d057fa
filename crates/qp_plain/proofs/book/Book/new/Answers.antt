use Rattle.std.proofs.Common.{slice_set, refl, arith}
use Rattle.std.proofs.lemmas.List.{length-set}
use Rattle.qp_plain.proofs.FreshLemmas.{all-put, is-new, places-new}
use Rattle.qp_plain.proofs.book.Book.new.Goals as goal

pub invariant_of-result : goal.invariant_of-result
invariant_of-result c =
    let e = c.in_ok-here.ensures in
    let here = is-new c.in_ok-here.here e.recs e.spare e.spilled e.stops e.answered in
    let places = places-new (slice_set c.in_ok-others.others.items 0 c.in_ok-here.here) (all-put c.in_ok-others.others.items 0 c.in_ok-here.here c.in_ok-others.ensures.all here) in
    let long = length-set c.in_ok-others.others.items 0 c.in_ok-here.here in
    record {
      within = omega (arith, c.requires.some, c.in_ok-others.ensures.long);
      few = omega (arith, c.requires.few, c.in_ok-others.ensures.long);
      room = omega (arith, places, long, c.in_ok-others.ensures.long);
      ordered = omega (arith, c.in-Ok.ensures.len, c.in-Ok.ensures.capacity);
    }

pub returns : goal.returns
returns c =
    let e = c.in_ok-here.ensures in
    let here = is-new c.in_ok-here.here e.recs e.spare e.spilled e.stops e.answered in
    record {
      all = all-put c.in_ok-others.others.items 0 c.in_ok-here.here c.in_ok-others.ensures.all here;
      here = here;
      long = c.in_ok-others.ensures.long;
      order = c.in-Ok.ensures.items;
      at = refl;
    }
