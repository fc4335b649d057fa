use Rattle.std.proofs.Common.{◌∙◌, ◌++◌, map}
use Rattle.qp_model.specs.History.{lane_items}
use Rattle.qp_model.specs.OneOrder.{spills_from}
use Rattle.qp_check_kernel.proofs.OrderLemmas.{spills-put, spills-end}
use Rattle.qp_check_kernel.proofs.one_order.put_all_spills.Goals as goal

pub loop-n-preserved : goal.loop-n-preserved
loop-n-preserved c =
    spills-put c.args.sources.now c.loop-n.n c.index-sources-n.result c.deref.result.now c.loop-n-test.true c.index-sources-n.is (c.deref.ensures.value ∙ c.lane.view_is)
    c.loop-n.order c.put_spills.new.order (c.args.order.now ++ spills_from 1 (map (λ l. lane_items l) c.args.sources.now)) c.in_ok-put_spills.ensures c.loop-n.invariant

pub returns : goal.returns
returns c =
    spills-end c.loop-n.order (c.args.order.now ++ spills_from 1 (map (λ l. lane_items l) c.args.sources.now)) c.args.sources.now c.loop-n.n c.loop-n-test.false c.loop-n.invariant
