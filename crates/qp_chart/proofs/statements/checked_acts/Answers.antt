use Rattle.std.proofs.lemmas.List.{take_all}
use Rattle.std.proofs.lemmas.Result.{err_from_is_err_and}
use Rattle.qp_chart_names.specs.ActionFaults.{text_at, texts_fault}
use Rattle.qp_chart.specs.ActionOf.{IsActOfText}
use Rattle.qp_chart_names.proofs.FaultLemmas.{passed-none, passed-one, passed-all, found-at, Corresponds-none, Corresponds-more}
use Rattle.qp_chart.proofs.statements.checked_acts.Goals as goal

pub loop-i-init : goal.loop-i-init
loop-i-init c = record { passed = passed-none _ _; made = rw c.new-items.ensures.items (Corresponds-none _) }

pub returns-in_err-act-clause-fault : goal.returns-in_err-act-clause-fault
unfolding texts_fault text_at
returns-in_err-act-clause-fault c =
    let s = c.args.scope.now in
    let p = err_from_is_err_and c.from_residual.result c.from_residual.ensures.1 in
    rw (p.1, p.2)
    (found-at (text_at s.names.now s.chart.now c.args.inside c.args.at.now c.args.list) c.args.texts.now c.loop-i.i c.index-texts-i.result _
    c.loop-i.invariant.passed c.loop-i-test.true c.index-texts-i.is (rw c.as_str.ensures at c.in_err-act.ensures.fault))

pub loop-i-preserved : goal.loop-i-preserved
unfolding text_at
loop-i-preserved c =
    let s = c.args.scope.now in
    let ok = rw c.as_str.ensures at c.in_ok-act.ensures.ok in
    record {
      passed = passed-one (text_at s.names.now s.chart.now c.args.inside c.args.at.now c.args.list) c.args.texts.now c.loop-i.i c.index-texts-i.result
          c.loop-i.invariant.passed c.loop-i-test.true c.index-texts-i.is ok.0;
      made = rw c.in_ok-push.ensures.items
          (Corresponds-more (IsActOfText s.names.now s.chart.now c.args.inside) c.args.texts.now c.loop-i.items.items c.loop-i.i c.index-texts-i.result _
          c.loop-i-test.true c.index-texts-i.is c.loop-i.invariant.made ok.1);
    }

pub returns-clause-ok : goal.returns-clause-ok
unfolding texts_fault
returns-clause-ok c =
    let s = c.args.scope.now in (
      passed-all (text_at s.names.now s.chart.now c.args.inside c.args.at.now c.args.list) c.args.texts.now c.loop-i.i c.loop-i.invariant.passed c.loop-i-test.false,
      rw (take_all c.loop-i.i c.args.texts.now c.loop-i-test.false) at c.loop-i.invariant.made,
    )
