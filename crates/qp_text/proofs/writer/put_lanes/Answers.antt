use Rattle.std.proofs.Common.{◌∙◌, sym, ap, drop, take, suc, ◌+◌}
use Rattle.std.proofs.lemmas.Result.{err_from_is_err_and}
use Rattle.qp_base.specs.Sink.{appended}
use Rattle.qp_model.specs.Output.{items_of_lane, items_of_lanes}
use Rattle.qp_model.specs.OutputText.{lines_text}
use Rattle.qp_text.proofs.LaneLemmas.{lines-next, lines-around}
use Rattle.qp_text.proofs.PutsLemmas.{appended-twice, prefix-longer, prefix-then}
use Rattle.qp_text.proofs.writer.put_lanes.Goals as goal

pub returns-in_err-put_lane : goal.returns-in_err-put_lane
returns-in_err-put_lane g c =
    let form = c.args.form in
    let lanes = c.deref-lane-items.result.now in
    let p = err_from_is_err_and c.from_residual.result c.from_residual.ensures.1 in
    rw (
      p.1,
      ← c.lanes.view_is,
      ← c.deref-lane-items.ensures.value,
      lines-around form lanes c.loop-number.number c.lane-item.result c.loop-number-test.true c.lane-item.is,
    ) (
      prefix-longer _ (lines_text form (items_of_lanes (0 + suc c.loop-number.number) (drop (suc c.loop-number.number) lanes))) _ _
          (prefix-then _ _ _ _ _ c.loop-number.invariant.written c.in_err-put_lane.ensures.0),
      rw (← c.loop-number.invariant.faults) c.in_err-put_lane.ensures.1,
    )

pub loop-number-preserved : goal.loop-number-preserved
loop-number-preserved g c =
    let form = c.args.form in
    let lanes = c.deref-lane-items.result.now in
    let i = c.loop-number.number in
    let before = lines_text form (items_of_lanes 0 (take i lanes)) in
    let lane = lines_text form (items_of_lane i c.lane-item.result) in
    record {
      written =
          c.in_ok-put_lane.ensures.0
          ∙ rw c.loop-number.invariant.written (appended-twice (g.K.Sink.written c.args.out.now) before lane)
          ∙ ap (appended (g.K.Sink.written c.args.out.now)) (sym (lines-next form lanes i c.lane-item.result c.loop-number-test.true c.lane-item.is));
      faults = c.in_ok-put_lane.ensures.1 ∙ c.loop-number.invariant.faults;
    }
