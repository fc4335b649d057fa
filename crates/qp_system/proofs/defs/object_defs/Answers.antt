use Rattle.qp_system.specs.SystemOf.{IsObjectOf}
use Rattle.qp_chart_names.proofs.FaultLemmas.{Corresponds-more, Corresponds-none}
use Rattle.qp_system.proofs.defs.object_defs.Goals as goal

pub loop-raw-init : goal.loop-raw-init
loop-raw-init c = rw c.new-items.ensures.items (Corresponds-none (IsObjectOf c.args.charts.now))

pub loop-raw-preserved : goal.loop-raw-preserved
loop-raw-preserved c =
    rw c.in_ok-push.ensures.items
    (Corresponds-more (IsObjectOf c.args.charts.now) c.args.raws.now c.loop-raw.items.items c.loop-raw.raw-index c.raw-item.result _ c.loop-raw-test.true c.raw-item.is c.loop-raw.invariant c.in_ok-object.ensures)
