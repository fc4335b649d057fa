use Rattle.std.proofs.Common.{take}
use Rattle.qp_chart.specs.ChartFaults.{timer_fault}
use Rattle.qp_chart_names.specs.Pairs.{Corresponds}
use Rattle.qp_chart.specs.ChartOf.{IsTimerOf}
use Rattle.qp_chart_names.proofs.FaultLemmas.{Passed}
use Rattle.qp_chart.proofs.check.checked_timers.Given as goal

abbrev pub invariant-loop-i : goal.invariant-loop-i
invariant-loop-i l = record {
  passed : Passed (timer_fault l.scope.names.now) l.raws l.i;
  made : Corresponds (IsTimerOf l.scope.names.now) (take l.i l.raws) l.timers.items;
}
