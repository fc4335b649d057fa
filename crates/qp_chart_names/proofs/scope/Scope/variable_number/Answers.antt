use Rattle.std.proofs.Common.{List, ℕ, arith}
use Rattle.std.specs.Prelude.{ℤ}
use Rattle.qp_chart_names.proofs.NumberingLemmas.{number_at-range}
use Rattle.qp_chart_names.proofs.scope.Scope.variable_number.Goals as goal

pub overflow_cast-result : goal.overflow_cast-result
overflow_cast-result c =
    let s = c.args.self.now in
    omega (arith, number_at-range (λ (v : (List ℕ) × ℤ). v.0) 0 s.chart.now.vars s.tables.variables c.args.name.now c.in-Some.number s.tables_made.variables c.in-Some.ensures, s.few_variables)
