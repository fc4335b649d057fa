use Rattle.std.proofs.Common.{sym, ◌∙◌}
use Rattle.qp_chart_compiled.specs.Rows.{leaves_rest}
use Rattle.qp_chart_compiled.proofs.ChoiceLemmas.{offers-row}
use Rattle.qp_chart_compiled.proofs.leaves.offer_row.Goals as goal

pub returns : goal.returns
returns c =
    offers-row c.args.site.now.chart.now c.args.site.now.leaf (leaves_rest c.args.site.now.width c.args.site.now.rest) c.args.state c.args.at c.in_ok-place.place c.args.row.now
    c.in_ok-plan.plan _ _ c.args.choices.now.items _ (sym c.is_in.ensures ∙ c.if-not-is_in.false) c.in_ok-place.ensures c.requires c.in_ok-plan.ensures c.in_ok-push.ensures.items
