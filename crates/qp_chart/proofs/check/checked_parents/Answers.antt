use Rattle.std.proofs.Common.{sym, ◌∙◌}
use Rattle.std.proofs.lemmas.List.{take_all}
use Rattle.std.proofs.lemmas.Result.{err_from_is_err_and}
use Rattle.qp_chart_names.specs.declared.raw.RawState.{RawState}
use Rattle.qp_chart.specs.ChartFaults.{parent_at}
use Rattle.qp_chart.specs.Parents.{parent_number}
use Rattle.qp_chart_names.specs.RawNumbers.{state_number}
use Rattle.qp_chart_names.proofs.FaultLemmas.{passed-none, passed-one, passed-all, found-at, undeclared_key-None, Refers-is, map-more}
use Rattle.qp_chart.proofs.check.checked_parents.Goals as goal

pub loop-i-init : goal.loop-i-init
loop-i-init c = record { passed = passed-none _ _; made = c.new-parents.ensures.items }

pub returns-in_err-parent-clause-fault : goal.returns-in_err-parent-clause-fault
unfolding parent_at
returns-in_err-parent-clause-fault c =
    let s = c.args.scope.now in
    let p = err_from_is_err_and c.from_residual.result c.from_residual.ensures.1 in
    rw (p.1, p.2)
    (found-at (parent_at s.chart.now) c.args.raws.now c.loop-i.i c.index-raws-i.result _
    c.loop-i.invariant.passed c.loop-i-test.true c.index-raws-i.is c.in_err-parent.ensures.fault)

pub loop-i-preserved : goal.loop-i-preserved
unfolding parent_at
loop-i-preserved c =
    let s = c.args.scope.now in
    let raw = c.index-raws-i.result in
    record {
      passed = passed-one (parent_at s.chart.now) c.args.raws.now c.loop-i.i raw
          c.loop-i.invariant.passed c.loop-i-test.true c.index-raws-i.is (undeclared_key-None (state_number s.chart.now) raw.parent _ _ c.in_ok-parent.ensures.ok);
      made = c.in_ok-push.ensures.items
          ∙ map-more (λ (r : RawState). parent_number s.chart.now r) c.args.raws.now c.loop-i.parents.items c.loop-i.i raw c.in_ok-parent.parent
          c.loop-i-test.true c.index-raws-i.is c.loop-i.invariant.made (sym (Refers-is (state_number s.chart.now) raw.parent _ c.in_ok-parent.ensures.ok));
    }

pub returns-clause-ok : goal.returns-clause-ok
returns-clause-ok c =
    let s = c.args.scope.now in (
      passed-all (parent_at s.chart.now) c.args.raws.now c.loop-i.i c.loop-i.invariant.passed c.loop-i-test.false,
      rw (take_all c.loop-i.i c.args.raws.now c.loop-i-test.false) at c.loop-i.invariant.made,
    )
