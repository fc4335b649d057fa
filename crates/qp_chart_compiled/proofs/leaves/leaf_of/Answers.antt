use Rattle.std.proofs.Common.{◌∙◌, arith}
use Rattle.qp_chart_compiled.proofs.LeafLemmas.{classes-none, classes-more, classes-all}
use Rattle.qp_chart_compiled.proofs.leaves.leaf_of.Goals as goal

pub loop-rest-init : goal.loop-rest-init
loop-rest-init c = classes-none c.args.chart.now c.args.width c.args.leaf _ _ c.new-classes.ensures.items

pub loop-rest-preserved : goal.loop-rest-preserved
loop-rest-preserved c =
    classes-more c.args.chart.now c.args.width c.args.leaf c.loop-rest.rest _ _ _ _ _ _ c.in_ok-made.made (c.as_slice.ensures.value ∙ c.in_ok-path.ensures) c.in_ok-made.ensures
    c.in_ok-push.ensures.items c.loop-rest.invariant

pub returns : goal.returns
returns c = classes-all c.args.chart.now c.args.width c.args.leaf c.loop-rest.rest _ _ _ (omega (arith, c.loop-rest-test.false, c.loop-rest.auto.rest-end)) c.loop-rest.invariant
