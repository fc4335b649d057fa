use Rattle.std.proofs.Common.{◌++◌, false}
use Rattle.qp_model.specs.History.{lane_items}
use Rattle.qp_model.specs.OneOrder.{part_of_look}
use Rattle.qp_check_lanes.specs.Options.{is_this_number}
use Rattle.qp_check_kernel.specs.StimulusIndex.{parts_at}
use Rattle.qp_check_kernel.proofs.OrderLemmas.{part-put, part-end}
use Rattle.qp_check_kernel.proofs.stimulus_index.Index.put_lane.Goals as goal

pub loop-rec-preserved : goal.loop-rec-preserved
loop-rec-preserved c k =
    part-put c.args.lane k c.args.cuts c.args.records.now c.loop-rec.rec-index c.rec-item.result c.loop-rec-test.true c.rec-item.is
    (is_this_number k c.loop-rec.look) (is_this_number k c.look_after-look.result) (parts_at c.loop-rec.self k) (parts_at c.put_in.new.self k)
    (parts_at c.args.self.now k ++ part_of_look c.args.lane k c.args.cuts false (lane_items c.args.records.now))
    (c.look_after-look.ensures k) (c.in_ok-put_in.ensures k) (c.loop-rec.invariant k)

pub returns : goal.returns
returns c k =
    part-end c.args.lane k c.args.cuts (is_this_number k c.loop-rec.look) (parts_at c.loop-rec.self k)
    (parts_at c.args.self.now k ++ part_of_look c.args.lane k c.args.cuts false (lane_items c.args.records.now))
    c.args.records.now c.loop-rec.rec-index c.loop-rec-test.false (c.loop-rec.invariant k)
