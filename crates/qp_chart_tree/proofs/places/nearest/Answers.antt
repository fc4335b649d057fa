use Rattle.std.proofs.Common.{length, ap, refl, sym, ◌∙◌}
use Rattle.std.specs.List.{find}
use Rattle.qp_chart.specs.StateTree.{has, parent_of, up}
use Rattle.qp_chart.specs.MainState.{nearest}
use Rattle.qp_chart_tree.proofs.WalkLemmas.{all-left, one-less, top-left, none-left, find-first, find-later, at-end}
use Rattle.qp_chart_tree.proofs.places.nearest.Goals as goal

pub loop-init : goal.loop-init
unfolding nearest
loop-init c = ap (λ path. find (λ x. has (up c.args.chart.now c.args.t) x) path) (all-left c.args.chart.now c.state-items.result.now c.args.s c.state-items.ensures)

pub returns-then-is_round : goal.returns-then-is_round
returns-then-is_round c =
    find-first (λ x. has (up c.args.chart.now c.args.t) x) _ _ c.in-Some.x _
    (one-less c.args.chart.now (length c.state-items.result.now) c.loop.index c.in-Some.x c.loop.at (parent_of c.args.chart.now c.in-Some.x) c.in-Some.is refl c.loop-test.true)
    (sym c.is_round.ensures ∙ c.if-is_round.true) c.loop.invariant

pub returns-in-None : goal.returns-in-None
returns-in-None c =
    at-end (λ path. find (λ x. has (up c.args.chart.now c.args.t) x) path) _ _ (top-left c.args.chart.now _ c.loop.at c.in-None.is) c.loop.invariant

pub loop-preserved : goal.loop-preserved
loop-preserved c =
    find-later (λ x. has (up c.args.chart.now c.args.t) x) _ _ c.in-Some.x _
    (one-less c.args.chart.now (length c.state-items.result.now) c.loop.index c.in-Some.x c.loop.at c.parent_of-at.result c.in-Some.is c.parent_of-at.ensures c.loop-test.true)
    (sym c.is_round.ensures ∙ c.if-is_round.false) c.loop.invariant

pub returns : goal.returns
returns c =
    at-end (λ path. find (λ x. has (up c.args.chart.now c.args.t) x) path) _ _
    (none-left c.args.chart.now (length c.state-items.result.now) c.loop.index c.loop.at c.loop-test.false) c.loop.invariant
