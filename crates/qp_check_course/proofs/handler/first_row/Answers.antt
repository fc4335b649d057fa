use Rattle.qp_chart.specs.Expr.{names_in}
use Rattle.qp_check_course.proofs.RowLemmas.{row-here, row-next, row-none}
use Rattle.qp_check_course.proofs.handler.first_row.Goals as goal

pub returns-then-is_open : goal.returns-then-is_open
returns-then-is_open c =
    row-here (names_in c.args.env.now) c.args.sig c.loop-i.i c.args.rows.now c.index-rows-i.result c.is_open.result _ c.loop-i-test.true c.index-rows-i.is
    c.is_open.ensures c.if-is_open.true c.loop-i.invariant

pub loop-i-preserved : goal.loop-i-preserved
loop-i-preserved c =
    row-next (names_in c.args.env.now) c.args.sig c.loop-i.i c.args.rows.now c.index-rows-i.result c.is_open.result _ c.loop-i-test.true c.index-rows-i.is
    c.is_open.ensures c.if-is_open.false c.loop-i.invariant

pub returns : goal.returns
returns c = row-none (names_in c.args.env.now) c.args.sig c.loop-i.i c.args.rows.now _ c.loop-i-test.false c.loop-i.invariant
