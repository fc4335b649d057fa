use Rattle.std.proofs.Common.{arith}
use Rattle.qp_chart_names.specs.declared.raw.RawTimer.{RawTimer}
use Rattle.qp_chart_names.proofs.NumberingLemmas.{number_at-range}
use Rattle.qp_chart_names.proofs.scope.Scope.timer_number.Goals as goal

pub overflow_cast-result : goal.overflow_cast-result
overflow_cast-result c =
    let s = c.args.self.now in
    omega (arith, number_at-range (λ (x : RawTimer). x.name) 1 s.chart.now.timer s.tables.timers c.args.name.now c.in-Some.number s.tables_made.timers c.in-Some.ensures, s.few_timers)
