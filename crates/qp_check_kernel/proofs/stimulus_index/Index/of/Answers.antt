use Rattle.std.proofs.Common.{◌∙◌, ◌++◌, map, ap}
use Rattle.qp_model.specs.History.{lane_items}
use Rattle.qp_model.specs.OneOrder.{parts_of_look}
use Rattle.qp_check_kernel.specs.StimulusIndex.{parts_at}
use Rattle.qp_check_kernel.proofs.OrderLemmas.{parts-put, parts-end}
use Rattle.qp_check_kernel.proofs.stimulus_index.Index.of.Goals as goal

pub loop-n-init : goal.loop-n-init
loop-n-init c k = ap (λ l. l ++ parts_of_look 1 k c.args.cuts (map (λ x. lane_items x) c.args.sources.now)) (c.none-index.ensures k)

pub loop-n-preserved : goal.loop-n-preserved
loop-n-preserved c k =
    parts-put k c.args.cuts c.args.sources.now c.loop-n.n c.index-sources-n.result c.deref.result.now c.loop-n-test.true c.index-sources-n.is (c.deref.ensures.value ∙ c.lane.view_is)
    (parts_at c.loop-n.index k) (parts_at c.put_lane.new.self k) (parts_of_look 1 k c.args.cuts (map (λ x. lane_items x) c.args.sources.now))
    (c.in_ok-put_lane.ensures k) (c.loop-n.invariant k)

pub returns : goal.returns
returns c k =
    parts-end k c.args.cuts (parts_at c.loop-n.index k) (parts_of_look 1 k c.args.cuts (map (λ x. lane_items x) c.args.sources.now)) c.args.sources.now
    c.loop-n.n c.loop-n-test.false (c.loop-n.invariant k)
