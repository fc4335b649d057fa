use Rattle.std.proofs.lemmas.List.{take_all}
use Rattle.std.proofs.lemmas.Result.{err_from_is_err_and}
use Rattle.qp_chart_names.proofs.FaultLemmas.{Corresponds-more, Corresponds-none}
use Rattle.qp_chart.specs.ChartOf.{IsChartOf}
use Rattle.qp_system.specs.Within.{within_chart, charts_fault}
use Rattle.qp_system.proofs.PassLemmas.{passed-none, passed-one, passed-at, passed-all}
use Rattle.qp_system.proofs.charts.checked_charts.Goals as goal

pub loop-i-init : goal.loop-i-init
loop-i-init c = record {
  passed = passed-none (within_chart c.args.names.now) c.args.charts.now;
  made = rw c.new-items.ensures.items (Corresponds-none (IsChartOf c.args.names.now));
}

pub returns-in_err-chart-clause-passes : goal.returns-in_err-chart-clause-passes
unfolding charts_fault
returns-in_err-chart-clause-passes c =
    let p = err_from_is_err_and c.from_residual.result c.from_residual.ensures.1 in
    let first = passed-at (within_chart c.args.names.now) c.args.charts.now c.loop-i.i c.index-charts-i.result _ c.loop-i.invariant.passed c.loop-i-test.true
    c.index-charts-i.is c.in_err-chart.ensures.passes in
    rw (p.1, p.2) first

pub loop-i-preserved : goal.loop-i-preserved
loop-i-preserved c = record {
  passed = passed-one (within_chart c.args.names.now) c.args.charts.now c.loop-i.i c.index-charts-i.result c.loop-i.invariant.passed c.loop-i-test.true
      c.index-charts-i.is c.in_ok-chart.ensures.passes;
  made = rw c.in_ok-push.ensures.items
      (Corresponds-more (IsChartOf c.args.names.now) c.args.charts.now c.loop-i.items.items c.loop-i.i c.index-charts-i.result _ c.loop-i-test.true c.index-charts-i.is
      c.loop-i.invariant.made c.in_ok-chart.ensures.made);
}

pub returns-clause-passes : goal.returns-clause-passes
unfolding charts_fault
returns-clause-passes c =
    passed-all (within_chart c.args.names.now) c.args.charts.now c.loop-i.i c.loop-i.invariant.passed c.loop-i-test.false

pub returns-clause-made : goal.returns-clause-made
returns-clause-made c = rw (take_all c.loop-i.i c.args.charts.now c.loop-i-test.false) at c.loop-i.invariant.made
