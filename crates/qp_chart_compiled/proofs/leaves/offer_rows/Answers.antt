use Rattle.std.proofs.Common.{refl}
use Rattle.qp_chart_compiled.proofs.ChoiceLemmas.{offering-all, offering-less, offering-end, row-next, rows-end, row-is}
use Rattle.qp_chart_compiled.proofs.leaves.offer_rows.Goals as goal

pub loop-at-init : goal.loop-at-init
loop-at-init c = offering-all c.args.site.now.chart.now c.args.site.now.leaf _ _ _ c.args.choices.now.items refl

pub offer_row-requires : goal.offer_row-requires
offer_row-requires c =
    row-is c.args.site.now.chart.now c.args.state c.loop-at.at c.rows_of-rows.result.now c.index-rows-at.result c.rows_of-rows.ensures c.loop-at-test.true c.index-rows-at.is

pub loop-at-preserved : goal.loop-at-preserved
loop-at-preserved c =
    offering-less c.args.site.now.chart.now c.args.site.now.leaf _ _ _ _ _ _ _ _ _ _
    (row-next c.args.site.now.width c.args.site.now.rest c.args.state c.loop-at.at c.rows_of-rows.result.now c.index-rows-at.result c.loop-at-test.true c.index-rows-at.is)
    c.in_ok-offer_row.ensures c.loop-at.invariant

pub returns : goal.returns
returns c =
    rw c.rows_of-rows.ensures at
    (offering-end c.args.site.now.chart.now c.args.site.now.leaf _ _ _ _ _ _
    (rows-end c.args.site.now.width c.args.site.now.rest c.args.state c.loop-at.at c.rows_of-rows.result.now c.loop-at-test.false) c.loop-at.invariant)
