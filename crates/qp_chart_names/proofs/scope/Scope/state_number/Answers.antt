use Rattle.std.proofs.Common.{arith}
use Rattle.qp_chart_names.specs.declared.raw.RawState.{RawState}
use Rattle.qp_chart_names.proofs.NumberingLemmas.{number_at-range}
use Rattle.qp_chart_names.proofs.scope.Scope.state_number.Goals as goal

pub overflow_cast-result : goal.overflow_cast-result
overflow_cast-result c =
    let s = c.args.self.now in
    omega (arith, number_at-range (λ (x : RawState). x.name) 1 s.chart.now.state s.tables.states c.args.name.now c.in-Some.number s.tables_made.states c.in-Some.ensures, s.few_states)
