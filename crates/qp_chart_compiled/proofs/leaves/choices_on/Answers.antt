use Rattle.std.proofs.Common.{refl, get_or}
use Rattle.qp_chart_compiled.proofs.ChoiceLemmas.{offering-all, offering-less, offering-end, state-in, path-end}
use Rattle.qp_chart_compiled.proofs.leaves.choices_on.Goals as goal

pub loop-s-init : goal.loop-s-init
loop-s-init c = rw c.new-items.ensures.items (offering-all c.args.site.now.chart.now c.args.site.now.leaf _ _ _ _ refl)

pub loop-s-preserved : goal.loop-s-preserved
loop-s-preserved c =
    offering-less c.args.site.now.chart.now c.args.site.now.leaf _ _ _ _ _ _ _ _ _ _
    (state-in c.args.site.now.chart.now c.args.site.now.width c.args.site.now.rest c.loop-s.s-index (get_or c.args.path.now c.loop-s.s-index 0) c.args.path.now c.loop-s-test.true refl)
    c.in_ok-offer_rows.ensures c.loop-s.invariant

pub returns : goal.returns
returns c =
    offering-end c.args.site.now.chart.now c.args.site.now.leaf _ _ _ _ _ _
    (path-end c.args.site.now.chart.now c.args.site.now.width c.args.site.now.rest c.loop-s.s-index c.args.path.now c.loop-s-test.false) c.loop-s.invariant
