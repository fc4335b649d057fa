use Rattle.qp_chart_text.specs.Terms.{order_of}
use Rattle.qp_chart_names.specs.ActionFaults.{params_in}
use Rattle.qp_chart.specs.ActionOf.{IsPlainOf}
use Rattle.qp_chart_names.proofs.FaultLemmas.{Corresponds-none, Corresponds-map}
use Rattle.qp_chart.proofs.resolve.resolved_plains.Goals as goal

pub loop-plain-init : goal.loop-plain-init
loop-plain-init c = rw c.new-items.ensures.items (Corresponds-none _)

pub loop-plain-preserved : goal.loop-plain-preserved
loop-plain-preserved c =
    rw c.in_ok-push.ensures.items
    (Corresponds-map order_of (IsPlainOf c.args.scope.now.names.now c.args.scope.now.chart.now (params_in c.args.inside)) c.args.plains.now c.loop-plain.items.items c.loop-plain.plain-index c.plain-item.result _
    c.loop-plain-test.true c.plain-item.is c.loop-plain.invariant c.in_ok-item.ensures.ok)
