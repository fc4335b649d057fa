use Rattle.std.proofs.Common.{length, ap, ◌∙◌, sym, ◌++◌}
use Rattle.qp_chart.specs.Drill.{Plan}
use Rattle.qp_chart_compiled.specs.Codes.{tasks_at}
use Rattle.qp_chart_tree.proofs.PlanLemmas.{adds-end, plan-more, drill-init, drill-step, drill-top, drill-end}
use Rattle.qp_chart_compiled.proofs.plans.push_drill.Goals as goal

pub loop-init : goal.loop-init
loop-init c =
    let whole = drill-init c.args.chart.now c.state-items.result.now c.args.s c.state-items.ensures in
    record { tasks = ap (λ (p : Plan). tasks_at c.args.chart.now c.args.codes.now.items ++ p.tasks) whole; leaf = ap (λ (p : Plan). p.leaf) whole }

pub returns-in-None : goal.returns-in-None
returns-in-None c =
    adds-end _ _ _ _ c.loop.leaf (drill-top c.args.chart.now _ c.loop.leaf c.in-None.ensures) c.loop.invariant.tasks c.loop.invariant.leaf

pub loop-preserved : goal.loop-preserved
loop-preserved c =
    let more = drill-step c.args.chart.now (length c.state-items.result.now) c.loop.index c.loop.leaf c.in-Some.t c.loop-test.true c.in-Some.ensures in
    record {
      tasks = plan-more _ _ _ _ _ _ more c.in_ok-push_initial-in-Some.ensures c.loop.invariant.tasks;
      leaf = ap (λ (p : Plan). p.leaf) (sym more) ∙ c.loop.invariant.leaf;
    }

pub returns : goal.returns
returns c =
    adds-end _ _ _ _ c.loop.leaf (drill-end c.args.chart.now (length c.state-items.result.now) c.loop.index c.loop.leaf c.loop-test.false)
    c.loop.invariant.tasks c.loop.invariant.leaf
