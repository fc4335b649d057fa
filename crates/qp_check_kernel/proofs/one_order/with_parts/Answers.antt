use Rattle.qp_model.specs.History.{lane_items}
use Rattle.qp_check_kernel.specs.StimulusIndex.{parts_at, lane_with_parts}
use Rattle.qp_check_kernel.proofs.OrderLemmas.{look-put, look-end}
use Rattle.qp_check_kernel.proofs.one_order.with_parts.Goals as goal

pub loop-rec-preserved : goal.loop-rec-preserved
loop-rec-preserved c =
    look-put (parts_at c.args.index.now) c.args.lane0.now c.loop-rec.rec-index c.rec-item.result c.loop-rec-test.true c.rec-item.is
    c.loop-rec.order c.put.new.self c.put_look.new.order (lane_with_parts (parts_at c.args.index.now) (lane_items c.args.lane0.now)) c.look_number.result
    c.in_ok-put.ensures c.look_number.ensures c.in_ok-put_look.ensures c.loop-rec.invariant

pub returns : goal.returns
returns c =
    look-end (parts_at c.args.index.now) c.args.lane0.now c.loop-rec.rec-index c.loop-rec.order (lane_with_parts (parts_at c.args.index.now) (lane_items c.args.lane0.now))
    c.loop-rec-test.false c.loop-rec.invariant
