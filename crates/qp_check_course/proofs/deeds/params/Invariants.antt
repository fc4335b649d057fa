use Rattle.std.proofs.Common.{◌≡◌, length, map, take}
use Rattle.qp_chart.specs.Expr.{names_in, value_of}
use Rattle.qp_model.specs.Calls.{bits_of}
use Rattle.qp_chart.specs.declared.expression.Bound.{Bound}
use Rattle.qp_check_course.proofs.deeds.params.Given as goal

abbrev pub invariant-loop-e : goal.invariant-loop-e
invariant-loop-e l = record {
  made : l.items.items ≡ map (λ (e : Bound). bits_of (value_of (names_in l.env) e)) (take l.e-index l.exprs);
  count : length l.items.items ≡ l.e-index;
}
