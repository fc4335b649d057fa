use Rattle.std.proofs.Common.{length}
use Rattle.qp_chart_tree.proofs.WalkLemmas.{all-left, one-less, top-left, none-left, kept-more, kept-all}
use Rattle.qp_chart_tree.proofs.places.path_of.Goals as goal

pub loop-init : goal.loop-init
loop-init c = rw c.new-path.ensures.items (all-left c.args.chart.now c.state-items.result.now c.args.s c.state-items.ensures)

pub returns-in-None : goal.returns-in-None
returns-in-None c = kept-all c.loop.path.items _ _ (top-left c.args.chart.now _ c.loop.at c.in-None.is) c.loop.invariant

pub loop-preserved : goal.loop-preserved
loop-preserved c =
    kept-more c.loop.path.items _ _ _ _ c.in-Some.x c.in_ok-push-in-Some.ensures.items
    (one-less c.args.chart.now (length c.state-items.result.now) c.loop.index c.in-Some.x c.loop.at c.parent_of-at.result c.in-Some.is c.parent_of-at.ensures c.loop-test.true)
    c.loop.invariant

pub returns : goal.returns
returns c =
    kept-all c.loop.path.items _ _ (none-left c.args.chart.now (length c.state-items.result.now) c.loop.index c.loop.at c.loop-test.false) c.loop.invariant
