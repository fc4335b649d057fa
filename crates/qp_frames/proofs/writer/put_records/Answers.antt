use Rattle.std.proofs.Common.{◌∙◌, ◌∷◌, [], map, take, drop, suc, refl}
use Rattle.std.proofs.lemmas.Result.{err_from_is_err_and}
use Rattle.std.proofs.lemmas.List.{take_all}
use Rattle.qp_model.specs.Output.{record_item}
use Rattle.qp_frames.proofs.FrameLemmas.{behind-append, frames-cut, frames-one, frames-put, records-around, records-next}
use Rattle.qp_frames.proofs.writer.put_records.Goals as goal

pub returns-in_err-put_record-clause-puts : goal.returns-in_err-put_record-clause-puts
returns-in_err-put_record-clause-puts g c =
    let form = c.args.form in
    let records = c.deref-r-items.result.now in
    let before = map record_item (take c.loop-r.r-index records) in
    let x = c.r-item.result in
    let p = err_from_is_err_and c.from_residual.result c.from_residual.ensures.1 in
    rw (p.1, ← c.lane.view_is, ← c.deref-r-items.ensures.value, records-around records c.loop-r.r-index x c.loop-r-test.true c.r-item.is) (
      frames-cut form c.args.sequence before (record_item x ∷ []) _ _ _ c.loop-r.invariant.written (map record_item (drop (suc c.loop-r.r-index) records))
          (rw (frames-one, ← c.loop-r.invariant.next) c.in_err-put_record.ensures.0),
      rw (← c.loop-r.invariant.faults) c.in_err-put_record.ensures.1,
    )

pub loop-r-preserved : goal.loop-r-preserved
loop-r-preserved g c =
    let form = c.args.form in
    let records = c.deref-r-items.result.now in
    let before = map record_item (take c.loop-r.r-index records) in
    let x = c.r-item.result in
    record {
      written =
          rw (records-next records c.loop-r.r-index x c.loop-r-test.true c.r-item.is)
          (frames-put form c.args.sequence before (record_item x ∷ []) _ _ _ c.loop-r.invariant.written
          (rw (frames-one, ← c.loop-r.invariant.next) c.in_ok-put_record.ensures.0));
      faults = c.in_ok-put_record.ensures.1 ∙ c.loop-r.invariant.faults;
      next =
          rw (records-next records c.loop-r.r-index x c.loop-r-test.true c.r-item.is, behind-append c.args.sequence before (record_item x ∷ []), ← c.loop-r.invariant.next)
          refl;
    }

pub returns-clause-puts : goal.returns-clause-puts
returns-clause-puts g c =
    let all = take_all c.loop-r.r-index c.deref-r-items.result.now c.loop-r-test.false in
    rw (← c.lane.view_is, ← c.deref-r-items.ensures.value)
    (rw all at c.loop-r.invariant.written, c.loop-r.invariant.faults)

pub returns-clause-next : goal.returns-clause-next
returns-clause-next g c =
    let all = take_all c.loop-r.r-index c.deref-r-items.result.now c.loop-r-test.false in
    rw (← c.lane.view_is, ← c.deref-r-items.ensures.value) (rw all at c.loop-r.invariant.next)
