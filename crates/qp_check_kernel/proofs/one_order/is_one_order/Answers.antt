use Rattle.std.proofs.Common.{rules, ◌≡◌, ◌∙◌, ◌||◌, refl, ap}
use Rattle.qp_model.specs.History.{lane_items}
use Rattle.qp_model.specs.Ends.{spills_in}
use Rattle.qp_check_kernel.proofs.OneOrderLemmas.{late-is}
use Rattle.qp_check_kernel.proofs.one_order.is_one_order.Goals as goal

pub has_one_order-requires-clause-run : goal.has_one_order-requires-clause-run
has_one_order-requires-clause-run c =
    let e : c.if-spills_in.run ≡ (spills_in (lane_items c.args.lane0.now) || c.some_spills-late.result) = search rules in
    record {
      sys = refl;
      stimuli = refl;
      index = c.in_ok-index.ensures;
      spills = e ∙ ap (λ b. spills_in (lane_items c.args.lane0.now) || b) (c.some_spills-late.ensures ∙ late-is c.args.sources.now);
    }
