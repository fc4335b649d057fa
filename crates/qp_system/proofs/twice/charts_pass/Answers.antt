use Rattle.std.proofs.lemmas.Result.{err_from_is_err_and}
use Rattle.qp_system.specs.Between.{chart_name_fault}
use Rattle.qp_system.proofs.PassLemmas.{clear-none, clear-one, clear-all, first-at}
use Rattle.qp_system.proofs.twice.charts_pass.Goals as goal

pub loop-i-init : goal.loop-i-init
loop-i-init c = clear-none chart_name_fault c.args.charts.now

pub returns-in_err-chart_passes : goal.returns-in_err-chart_passes
returns-in_err-chart_passes c =
    let p = err_from_is_err_and c.from_residual.result c.from_residual.ensures.1 in
    rw (p.1, p.2)
    (first-at chart_name_fault c.args.charts.now c.loop-i.i c.index-charts-i.result _ c.loop-i.invariant c.loop-i-test.true c.index-charts-i.is
    c.in_err-chart_passes.ensures)

pub loop-i-preserved : goal.loop-i-preserved
loop-i-preserved c =
    clear-one chart_name_fault c.args.charts.now c.loop-i.i c.index-charts-i.result c.loop-i.invariant c.loop-i-test.true c.index-charts-i.is
    c.in_ok-chart_passes.ensures

pub returns : goal.returns
returns c = clear-all chart_name_fault c.args.charts.now c.loop-i.i c.loop-i.invariant c.loop-i-test.false
