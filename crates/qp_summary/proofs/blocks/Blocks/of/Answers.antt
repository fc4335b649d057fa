use Rattle.std.proofs.Common.{◌∙◌, ◌++◌, ap, subst, sym, take}
use Rattle.qp_check_lanes.proofs.ItemLemmas.{all_items-up_to}
use Rattle.qp_model.specs.History.{all_items, lane_items}
use Rattle.qp_summary.specs.Counting.{AreBlocks}
use Rattle.qp_summary.proofs.blocks.Blocks.of.Goals as goal

pub loop-lane-init : goal.loop-lane-init
unfolding all_items
loop-lane-init c = c.in_ok-blocks.ensures

pub loop-lane-preserved : goal.loop-lane-preserved
loop-lane-preserved c =
    let lanes = c.args.lanes.now in
    let i = c.loop-lane.lane-index in
    let same = c.deref.ensures.value ∙ c.lane.view_is in
    subst (AreBlocks c.args.size c.add_lane.new.self) (ap (λ l. all_items (take i lanes) ++ lane_items l) same ∙ sym (all_items-up_to lanes i c.lane-item.result c.loop-lane-test.true c.lane-item.is))
    (c.add_lane.ensures c.args.size (all_items (take i lanes)) c.loop-lane.invariant)
