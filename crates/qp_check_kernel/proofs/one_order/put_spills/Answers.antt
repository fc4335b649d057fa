use Rattle.qp_check_kernel.proofs.OrderLemmas.{spill-none, spill-put}
use Rattle.qp_check_kernel.proofs.one_order.put_spills.Goals as goal

pub loop-rec-init : goal.loop-rec-init
loop-rec-init c = spill-none c.args.lane c.args.order.now

pub loop-rec-preserved : goal.loop-rec-preserved
loop-rec-preserved c =
    spill-put c.args.lane c.args.records.now c.loop-rec.rec-index c.rec-item.result c.loop-rec-test.true c.rec-item.is
    c.args.order.now c.loop-rec.order c.put_if.new.self c.is_spill.result c.is_spill.ensures c.in_ok-put_if.ensures c.loop-rec.invariant
