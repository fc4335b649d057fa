use Rattle.std.proofs.Common.{◌≡◌, ◌-◌, length}
use Rattle.qp_chart.specs.Expr.{names_in}
use Rattle.qp_chart.specs.StateTree.{path_of}
use Rattle.qp_chart.specs.Handler.{handler_on, handler}
use Rattle.qp_check_course.proofs.handler.handler_of.Given as goal

abbrev pub invariant-loop : goal.invariant-loop
invariant-loop l = handler_on l.chart (names_in l.env) l.sig (path_of l.chart (length l.items - l.index) l.at) ≡ handler l.chart (names_in l.env) l.sig l.fn.leaf
