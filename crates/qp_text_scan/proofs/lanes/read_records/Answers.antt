use Rattle.std.proofs.Common.{◌≡◌, [], ◌∷◌, ◌++◌, arith, length-append}
use Rattle.qp_text_scan.specs.Readable.{is_readable}
use Rattle.qp_text_scan.proofs.LaneLemmas.{all-more, lane-holds, records-more}
use Rattle.qp_text_scan.proofs.lanes.read_records.Goals as goal

pub returns-in_default-clause-readable : goal.returns-in_default-clause-readable
returns-in_default-clause-readable c = lane-holds c.args.form c.loop.records.items (omega arith) c.loop.invariant.readable

pub returns-clause-readable : goal.returns-clause-readable
returns-clause-readable c = lane-holds c.args.form c.loop.records.items (omega arith) c.loop.invariant.readable

pub loop-preserved : goal.loop-preserved
loop-preserved c =
    let more : c.push.new.self.items ≡ c.loop.records.items ++ c.read_record.new.r ∷ [] = c.in-Ok.ensures.items in
    record {
      so_far =
          rw more
          (records-more c.args.form c.loop.records.items c.read_record.new.r c.args.text.now c.loop.rest.now c.in-Some.behind.now c.loop.invariant.so_far
          c.in-Some.ensures.text);
      readable = rw more (all-more (is_readable c.args.form) c.loop.records.items c.read_record.new.r c.loop.invariant.readable c.in-Some.ensures.readable);
      few = rw more (omega (arith, length-append c.loop.records.items (c.read_record.new.r ∷ []), c.loop.invariant.few));
    }
