use Rattle.std.proofs.lemmas.Result.{IfOk-weaker}
use Rattle.qp_chart_tree.proofs.PlanLemmas.{moves-some, moves-none}
use Rattle.qp_chart_compiled.proofs.plans.push_moves.Goals as goal

pub returns-in_ok-push_crossing-in-Some : goal.returns-in_ok-push_crossing-in-Some
returns-in_ok-push_crossing-in-Some c =
    IfOk-weaker c.push_drill.result _ _
    (λ after h. moves-some c.args.chart.now c.args.leaf c.args.s c.in-Some.t c.main_state.result c.args.to _ _ _ after c.in-Some.is c.main_state.ensures
    c.in_ok-push_crossing-in-Some.ensures h)
    c.push_drill.ensures

pub returns-in-None : goal.returns-in-None
returns-in-None c = moves-none c.args.chart.now c.args.leaf c.args.s c.args.to _ c.in-None.is
