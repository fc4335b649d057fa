use Rattle.std.proofs.Common.{take}
use Rattle.qp_chart_names.specs.ActionFaults.{text_at}
use Rattle.qp_chart_names.specs.Pairs.{Corresponds}
use Rattle.qp_chart.specs.ActionOf.{IsActOfText}
use Rattle.qp_chart_names.proofs.FaultLemmas.{Passed}
use Rattle.qp_chart.proofs.statements.checked_acts.Given as goal

abbrev pub invariant-loop-i : goal.invariant-loop-i
invariant-loop-i l = record {
  passed : Passed (text_at l.scope.names.now l.scope.chart.now l.inside l.at l.list) l.texts l.i;
  made : Corresponds (IsActOfText l.scope.names.now l.scope.chart.now l.inside) (take l.i l.texts) l.items.items;
}
