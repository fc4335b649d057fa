use Rattle.qp_chart_text.specs.Terms.{term_of}
use Rattle.qp_chart.specs.ActionOf.{IsBoundOf}
use Rattle.qp_chart_names.proofs.FaultLemmas.{Corresponds-none, Corresponds-map}
use Rattle.qp_chart.proofs.resolve.bounds.Goals as goal

pub loop-e-init : goal.loop-e-init
loop-e-init c = rw c.new-items.ensures.items (Corresponds-none _)

pub loop-e-preserved : goal.loop-e-preserved
loop-e-preserved c =
    rw c.in_ok-push.ensures.items
    (Corresponds-map term_of (IsBoundOf c.args.scope.now.chart.now c.args.params) c.args.exprs.now c.loop-e.items.items c.loop-e.e-index c.e-item.result _
    c.loop-e-test.true c.e-item.is c.loop-e.invariant c.in_ok-item.ensures.ok)
