use Rattle.std.proofs.Common.{take}
use Rattle.qp_chart.specs.ChartFaults.{state_fault}
use Rattle.qp_chart_names.specs.Pairs.{Corresponds}
use Rattle.qp_chart.specs.ChartOf.{IsStateOf}
use Rattle.qp_chart_names.proofs.FaultLemmas.{Passed}
use Rattle.qp_chart.proofs.state_check.checked_states.Given as goal

abbrev pub invariant-loop-i : goal.invariant-loop-i
invariant-loop-i l = record {
  passed : Passed (state_fault l.scope.names.now l.scope.chart.now) l.raws l.i;
  made : Corresponds (IsStateOf l.scope.names.now l.scope.chart.now) (take l.i l.raws) l.states.items;
}
