use Rattle.std.proofs.Common.{◌≡◌, ◌∙◌, ap, arith}
use Rattle.std.specs.List.{count_by}
use Rattle.qp_model.specs.History.{all_items, lane_items}
use Rattle.qp_model.specs.Lawful.{is_settle}
use Rattle.qp_check_lanes.proofs.ItemLemmas.{all_items-count}
use Rattle.qp_check_kernel.proofs.kernel_lane.settles_suffice.Goals as goal

pub loop-lane-init : goal.loop-lane-init
unfolding all_items
loop-lane-init c = omega (arith, c.saturating_sub-wanted.ensures)

pub loop-lane-preserved : goal.loop-lane-preserved
loop-lane-preserved c =
    let more = all_items-count (λ i. is_settle i.body) c.deref-lane-items.result.now c.loop-lane.lane-index c.lane-item.result c.loop-lane-test.true c.lane-item.is in
    let here : c.settles_in.result ≡ count_by (λ i. is_settle i.body) (lane_items c.lane-item.result) =
    c.settles_in.ensures ∙ ap (λ l. count_by (λ i. is_settle i.body) (lane_items l)) (c.deref.ensures.value ∙ c.lane.view_is) in
    omega (arith, more, here, c.saturating_sub-wanted-in-loop-lane.ensures, c.loop-lane.invariant)
