use Rattle.std.proofs.Common.{◌≡◌, [], ◌∷◌, ◌++◌, arith, length-append}
use Rattle.qp_text_scan.specs.Readable.{is_readable_lane}
use Rattle.qp_text_scan.proofs.LaneLemmas.{all-more, lanes-more}
use Rattle.qp_text_scan.proofs.lanes.read_lanes.Goals as goal

pub loop-number-preserved : goal.loop-number-preserved
loop-number-preserved c =
    let more : c.push.new.self.items ≡ c.loop-number.lanes.items ++ c.in_ok-lane.lane ∷ [] = c.in-Ok.ensures.items in
    record {
      so_far =
          rw more
          (lanes-more c.args.form c.loop-number.number c.loop-number.lanes.items c.in_ok-lane.lane c.args.text.now c.loop-number.rest.now c.in-Some.records.now
          c.in_ok-lane.behind.now (omega (arith, c.loop-number.invariant.count)) c.loop-number.invariant.so_far (c.in-Some.ensures c.args.form)
          c.in_ok-lane.ensures.text);
      readable =
          rw more
          (all-more (is_readable_lane c.args.form) c.loop-number.lanes.items c.in_ok-lane.lane c.loop-number.invariant.readable c.in_ok-lane.ensures.readable);
      count = rw more (omega (arith, length-append c.loop-number.lanes.items (c.in_ok-lane.lane ∷ []), c.loop-number.invariant.count));
    }
