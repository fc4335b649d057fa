use Rattle.qp_system.proofs.SystemLemmas.{timers-more}
use Rattle.qp_system.proofs.defs.timer_defs.Goals as goal

pub loop-object-preserved : goal.loop-object-preserved
loop-object-preserved c =
    timers-more c.args.charts.now c.args.objects.now c.loop-object.object-index c.object-item.result c.index-charts-object.result c.loop-object.items.items c.add_timers.new.items.items
    c.loop-object-test.true c.object-item.is (rw c.object-item.is (c.requires c.loop-object.object-index c.object-item.result c.loop-object-test.true)) c.index-charts-object.is c.loop-object.invariant
    (rw c.timer.ensures at c.in_ok-add_timers.ensures)
