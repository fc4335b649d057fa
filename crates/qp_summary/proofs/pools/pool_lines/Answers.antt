use Rattle.std.proofs.Common.{◌≡◌, ◌+◌, ◌<◌, ◌∙◌, ◌++◌, ◌∷◌, [], length, take, sym, ap, subst, arith, rules}
use Rattle.std.specs.Prelude.{string_bytes}
use Rattle.qp_model.specs.History.{all_items}
use Rattle.qp_model.specs.OutputSummary.{pool_line, pool_lines}
use Rattle.qp_summary.specs.Counting.{AreBlocks}
use Rattle.qp_summary.proofs.SummaryLemmas.{pools-next}
use Rattle.qp_summary.proofs.pools.pool_lines.Goals as goal

pub loop-i-preserved : goal.loop-i-preserved
loop-i-preserved c =
    let items = all_items c.args.j.now.lanes in
    let ds = c.args.sys.now.pools in
    let up : c.loop-i.i + 1 ≡ 1 + c.loop-i.i = omega arith in
    let inside : c.loop-i.i < length ds = search rules in
    let lanes : c.deref.result.now ≡ c.args.j.now.lanes = search rules in
    let blocks = subst (λ l. AreBlocks c.saturating_add.result c.in_ok-blocks.blocks (all_items l)) lanes c.in_ok-blocks.ensures in
    c.in_ok-push.ensures ∙ ap (λ ls. ls ++ string_bytes c.in_ok-pool_line.field-0 ∷ []) c.loop-i.invariant
    ∙ ap (λ l. pool_lines items 1 (take c.loop-i.i ds) ++ l ∷ []) (c.in_ok-pool_line.ensures c.saturating_add.result items blocks ∙ ap (pool_line items) up)
    ∙ sym (pools-next items 1 ds c.loop-i.i inside)
