use Rattle.std.proofs.Common.{◌≡◌, take, map}
use Rattle.qp_chart_names.specs.declared.raw.RawState.{RawState}
use Rattle.qp_chart.specs.ChartFaults.{parent_at}
use Rattle.qp_chart.specs.Parents.{parent_number}
use Rattle.qp_chart_names.proofs.FaultLemmas.{Passed}
use Rattle.qp_chart.proofs.check.checked_parents.Given as goal

abbrev pub invariant-loop-i : goal.invariant-loop-i
invariant-loop-i l = record {
  passed : Passed (parent_at l.scope.chart.now) l.raws l.i;
  made : l.parents.items ≡ map (λ (raw : RawState). parent_number l.scope.chart.now raw) (take l.i l.raws);
}
