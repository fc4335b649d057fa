use Rattle.std.proofs.Common.{length, ap, refl}
use Rattle.qp_chart.specs.StateTree.{has, parent_of}
use Rattle.qp_chart_tree.proofs.WalkLemmas.{all-left, one-less, top-left, none-left, has-first, has-later, at-end}
use Rattle.qp_chart_tree.proofs.places.is_round.Goals as goal

pub loop-init : goal.loop-init
loop-init c = ap (λ path. has path c.args.y) (all-left c.args.chart.now c.state-items.result.now c.args.x c.state-items.ensures)

pub returns-then-s-y : goal.returns-then-s-y
returns-then-s-y c =
    has-first _ _ c.in-Some.s c.args.y _
    (one-less c.args.chart.now (length c.state-items.result.now) c.loop.index c.in-Some.s c.loop.at (parent_of c.args.chart.now c.in-Some.s) c.in-Some.is refl c.loop-test.true)
    c.if-s-y.true c.loop.invariant

pub returns-in-None : goal.returns-in-None
returns-in-None c = at-end (λ path. has path c.args.y) _ _ (top-left c.args.chart.now _ c.loop.at c.in-None.is) c.loop.invariant

pub loop-preserved : goal.loop-preserved
loop-preserved c =
    has-later _ _ c.in-Some.s c.args.y _
    (one-less c.args.chart.now (length c.state-items.result.now) c.loop.index c.in-Some.s c.loop.at c.parent_of-at.result c.in-Some.is c.parent_of-at.ensures c.loop-test.true)
    c.if-s-y.false c.loop.invariant

pub returns : goal.returns
returns c =
    at-end (λ path. has path c.args.y) _ _ (none-left c.args.chart.now (length c.state-items.result.now) c.loop.index c.loop.at c.loop-test.false) c.loop.invariant
