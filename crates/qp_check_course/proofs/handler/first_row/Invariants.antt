use Rattle.std.proofs.Common.{◌≡◌, ◌+◌, drop}
use Rattle.qp_chart.specs.Expr.{names_in}
use Rattle.qp_chart.specs.Handler.{first_row}
use Rattle.qp_check_course.proofs.handler.first_row.Given as goal

abbrev pub invariant-loop-i : goal.invariant-loop-i
invariant-loop-i l = first_row (names_in l.env) l.sig (l.i + 1) (drop l.i l.rows) ≡ first_row (names_in l.env) l.sig 1 l.rows
