use Rattle.std.proofs.Common.{◌≡◌, drop}
use Rattle.qp_chart.specs.Expr.{names_in}
use Rattle.qp_chart_compiled.specs.Rows.{first_open}
use Rattle.qp_chart_compiled.proofs.rows.first_open.Given as goal

abbrev pub invariant-loop-choice : goal.invariant-loop-choice
invariant-loop-choice l = first_open l.chart (names_in l.env) l.sig (drop l.choice-index l.choices) ≡ first_open l.chart (names_in l.env) l.sig l.choices
