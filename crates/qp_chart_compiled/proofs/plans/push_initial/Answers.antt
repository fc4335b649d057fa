use Rattle.qp_chart_compiled.proofs.PlanLemmas.{initial-is}
use Rattle.std.proofs.lemmas.Result.{IfOk-weaker}
use Rattle.qp_chart_compiled.proofs.plans.push_initial.Goals as goal

pub returns : goal.returns
returns c =
    IfOk-weaker c.push_entries.result _ _
    (λ u h. initial-is c.args.chart.now c.args.s c.args.t _ c.args.codes.now.items _ _ _ c.in_ok-path.ensures c.in_ok-push.ensures.items c.in_ok-push_acts.ensures
    (rw c.deref.ensures.value at h))
    c.push_entries.ensures
