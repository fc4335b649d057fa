use Rattle.std.proofs.Common.{length, ap, refl, sym, ◌∙◌}
use Rattle.qp_chart.specs.Expr.{names_in}
use Rattle.qp_chart.specs.StateTree.{parent_of}
use Rattle.qp_chart.specs.Handler.{handler_on, handler}
use Rattle.qp_chart_tree.proofs.WalkLemmas.{all-left, one-less, top-left, none-left}
use Rattle.qp_check_course.proofs.RowLemmas.{handler-here, handler-next}
use Rattle.qp_check_course.proofs.handler.handler_of.Goals as goal

pub loop-init : goal.loop-init
unfolding handler
loop-init c =
    ap (λ path. handler_on c.args.chart.now (names_in c.args.env.now) c.args.sig path) (all-left c.args.chart.now c.state-items.result.now c.args.leaf c.state-items.ensures)

pub returns-then-is_some : goal.returns-then-is_some
unfolding handler_on
returns-then-is_some c =
    handler-here c.in-Some.s _ _ c.row_of-found.result c.row_of-found.ensures (sym c.is_some.ensures ∙ c.if-is_some.true)
    ∙ sym (ap (λ path. handler_on c.args.chart.now (names_in c.args.env.now) c.args.sig path)
    (one-less c.args.chart.now (length c.state-items.result.now) c.loop.index c.in-Some.s c.loop.at (parent_of c.args.chart.now c.in-Some.s) c.in-Some.is refl c.loop-test.true))
    ∙ c.loop.invariant

pub returns-in-None : goal.returns-in-None
unfolding handler_on
returns-in-None c =
    sym (ap (λ path. handler_on c.args.chart.now (names_in c.args.env.now) c.args.sig path)
    (top-left c.args.chart.now _ c.loop.at c.in-None.is))
    ∙ c.loop.invariant

pub loop-preserved : goal.loop-preserved
unfolding handler_on
loop-preserved c =
    sym (handler-next c.in-Some.s _ _ c.row_of-found.result c.row_of-found.ensures (sym c.is_some.ensures ∙ c.if-is_some.false))
    ∙ sym (ap (λ path. handler_on c.args.chart.now (names_in c.args.env.now) c.args.sig path)
    (one-less c.args.chart.now (length c.state-items.result.now) c.loop.index c.in-Some.s c.loop.at c.parent_of-at.result c.in-Some.is c.parent_of-at.ensures c.loop-test.true))
    ∙ c.loop.invariant

pub returns : goal.returns
unfolding handler_on
returns c =
    sym (ap (λ path. handler_on c.args.chart.now (names_in c.args.env.now) c.args.sig path)
    (none-left c.args.chart.now (length c.state-items.result.now) c.loop.index c.loop.at c.loop-test.false))
    ∙ c.loop.invariant
