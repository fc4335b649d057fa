use Rattle.qp_chart.specs.Expr.{names_in}
use Rattle.qp_chart_compiled.proofs.StepLemmas.{open-here, open-later, open-none}
use Rattle.qp_chart_compiled.proofs.rows.first_open.Goals as goal

pub returns-then-is_open_at : goal.returns-then-is_open_at
returns-then-is_open_at c =
    open-here c.args.chart.now (names_in c.args.env.now) c.args.sig c.args.choices.now c.loop-choice.choice-index _ c.is_open_at.result _ c.loop-choice-test.true
    c.is_open_at.ensures c.if-is_open_at.true c.loop-choice.invariant

pub loop-choice-preserved : goal.loop-choice-preserved
loop-choice-preserved c =
    open-later c.args.chart.now (names_in c.args.env.now) c.args.sig c.args.choices.now c.loop-choice.choice-index _ c.is_open_at.result _ c.loop-choice-test.true
    c.is_open_at.ensures c.if-is_open_at.false c.loop-choice.invariant

pub returns : goal.returns
returns c = open-none c.args.chart.now (names_in c.args.env.now) c.args.sig c.args.choices.now c.loop-choice.choice-index _ c.loop-choice-test.false c.loop-choice.invariant
