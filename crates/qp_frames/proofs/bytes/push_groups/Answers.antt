use Rattle.std.proofs.Common.{◌∙◌, sym, append_assoc, append-nil, arith}
use Rattle.qp_frames.proofs.GroupLemmas.{groups-last, groups-next, groups-none}
use Rattle.qp_frames.proofs.bytes.push_groups.Goals as goal

pub returns-then-rest-lt128-clause-bytes : goal.returns-then-rest-lt128-clause-bytes
returns-then-rest-lt128-clause-bytes c =
    c.push.ensures.items ∙ rw (groups-last c.loop-place.place c.loop-place.rest c.loop-place-test.true c.if-rest-lt128.true) at c.loop-place.invariant.bytes

pub loop-place-preserved : goal.loop-place-preserved
loop-place-preserved c =
    let whole = rw (groups-next c.loop-place.place c.loop-place.rest c.loop-place-test.true c.if-rest-lt128.false) at c.loop-place.invariant.bytes in
    record {
      bytes = rw (c.push-in-loop-place.ensures.items, append_assoc) whole;
      len = omega arith;
    }

pub returns-clause-bytes : goal.returns-clause-bytes
returns-clause-bytes c =
    let whole = rw (groups-none c.loop-place.place c.loop-place.rest c.loop-place-test.false) at c.loop-place.invariant.bytes in
    sym (append-nil c.loop-place.body.items) ∙ whole
