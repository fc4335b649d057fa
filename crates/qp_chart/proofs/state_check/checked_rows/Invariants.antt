use Rattle.std.proofs.Common.{take}
use Rattle.qp_chart.specs.ChartFaults.{row_fault_at}
use Rattle.qp_chart_names.specs.Pairs.{Corresponds}
use Rattle.qp_chart.specs.ChartOf.{IsRowOf}
use Rattle.qp_chart_names.proofs.FaultLemmas.{Passed}
use Rattle.qp_chart.proofs.state_check.checked_rows.Given as goal

abbrev pub invariant-loop-i : goal.invariant-loop-i
invariant-loop-i l = record {
  passed : Passed (row_fault_at l.scope.names.now l.scope.chart.now l.place l.raws) l.raws l.i;
  made : Corresponds (IsRowOf l.scope.names.now l.scope.chart.now) (take l.i l.raws) l.rows.items;
}
