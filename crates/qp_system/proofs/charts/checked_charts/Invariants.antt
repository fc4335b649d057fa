use Rattle.std.proofs.Common.{take}
use Rattle.qp_chart.specs.ChartOf.{IsChartOf}
use Rattle.qp_chart_names.specs.Pairs.{Corresponds}
use Rattle.qp_system.specs.Within.{within_chart}
use Rattle.qp_system.proofs.PassLemmas.{Passed}
use Rattle.qp_system.proofs.charts.checked_charts.Given as goal

abbrev pub invariant-loop-i : goal.invariant-loop-i
invariant-loop-i l = record {
  passed : Passed (within_chart l.names) l.charts l.i;
  made : Corresponds (IsChartOf l.names) (take l.i l.charts) l.items.items;
}
