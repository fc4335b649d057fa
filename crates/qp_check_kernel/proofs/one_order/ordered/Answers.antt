use Rattle.std.proofs.Common.{◌∙◌, ◌++◌, map, ap, cond, []}
use Rattle.qp_model.specs.History.{lane_items}
use Rattle.qp_model.specs.OneOrder.{order, spills_from}
use Rattle.qp_check_kernel.specs.StimulusIndex.{parts_at}
use Rattle.qp_check_kernel.proofs.OrderLemmas.{with_parts-is}
use Rattle.qp_check_kernel.proofs.one_order.ordered.Goals as goal

pub returns : goal.returns
unfolding order
returns c =
    let sources = map (λ l. lane_items l) c.args.sources.now in
    c.in_ok-put_rest.ensures
    ∙ ap (λ l. l ++ cond c.args.cuts [] (spills_from 1 sources)) (c.in_ok-order.ensures ∙ with_parts-is (parts_at c.args.index.now) c.args.cuts sources c.requires (lane_items c.args.lane0.now))
