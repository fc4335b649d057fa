use Rattle.std.proofs.Common.{◌∙◌, ◌+◌, take, drop, suc, add-one, zero-add}
use Rattle.std.proofs.lemmas.Result.{err_from_is_err_and}
use Rattle.std.proofs.lemmas.List.{take_all}
use Rattle.qp_model.specs.Output.{items_of_lane, items_of_lanes}
use Rattle.qp_text.proofs.LaneLemmas.{lanes-around, lanes-next}
use Rattle.qp_frames.proofs.FrameLemmas.{behind-append, frames-cut, frames-put}
use Rattle.qp_frames.proofs.writer.put_lanes.Goals as goal

pub returns-in_err-next-clause-puts : goal.returns-in_err-next-clause-puts
returns-in_err-next-clause-puts g c =
    let lanes = c.deref-lane-items.result.now in
    let i = c.loop-number.number in
    let lane = c.lane-item.result in
    let p = err_from_is_err_and c.from_residual.result c.from_residual.ensures.1 in
    rw (p.1, ← c.lanes.view_is, ← c.deref-lane-items.ensures.value, lanes-around 0 lanes i lane c.loop-number-test.true c.lane-item.is, zero-add i) (
      frames-cut c.args.form c.args.sequence (items_of_lanes 0 (take i lanes)) (items_of_lane i lane) _ _ _ c.loop-number.invariant.written
          (items_of_lanes (0 + suc i) (drop (suc i) lanes)) (rw (← c.loop-number.invariant.next) c.in_err-next.ensures.puts.0),
      rw (← c.loop-number.invariant.faults) c.in_err-next.ensures.puts.1,
    )

pub loop-number-preserved : goal.loop-number-preserved
loop-number-preserved g c =
    let lanes = c.deref-lane-items.result.now in
    let i = c.loop-number.number in
    let lane = c.lane-item.result in
    record {
      written =
          rw (add-one, lanes-next 0 lanes i lane c.loop-number-test.true c.lane-item.is, zero-add i)
          (frames-put c.args.form c.args.sequence (items_of_lanes 0 (take i lanes)) (items_of_lane i lane) _ _ _ c.loop-number.invariant.written
          (rw (← c.loop-number.invariant.next) c.in_ok-next.ensures.puts.0));
      faults = c.in_ok-next.ensures.puts.1 ∙ c.loop-number.invariant.faults;
      next =
          rw (
            add-one,
            lanes-next 0 lanes i lane c.loop-number-test.true c.lane-item.is,
            zero-add i,
            behind-append c.args.sequence (items_of_lanes 0 (take i lanes)) (items_of_lane i lane),
            ← c.loop-number.invariant.next,
          )
          c.in_ok-next.ensures.next;
    }

pub returns-clause-puts : goal.returns-clause-puts
returns-clause-puts g c =
    let all = take_all c.loop-number.number c.deref-lane-items.result.now c.loop-number-test.false in
    rw (← c.lanes.view_is, ← c.deref-lane-items.ensures.value)
    (rw all at c.loop-number.invariant.written, c.loop-number.invariant.faults)

pub returns-clause-next : goal.returns-clause-next
returns-clause-next g c =
    let all = take_all c.loop-number.number c.deref-lane-items.result.now c.loop-number-test.false in
    rw (← c.lanes.view_is, ← c.deref-lane-items.ensures.value) (rw all at c.loop-number.invariant.next)
