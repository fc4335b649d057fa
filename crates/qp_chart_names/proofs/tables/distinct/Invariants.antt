use Rattle.std.proofs.Common.{take}
use Rattle.qp_chart_names.specs.Numbering.{IsNumbering}
use Rattle.qp_chart_names.specs.Known.{words}
use Rattle.qp_chart_names.specs.NameFaults.{double_at}
use Rattle.qp_chart_names.proofs.FaultLemmas.{Passed}
use Rattle.qp_chart_names.proofs.tables.distinct.Given as goal

abbrev pub invariant-loop-i : goal.invariant-loop-i
invariant-loop-i l = record {
  numbered : IsNumbering 1 (words (take l.i l.names)) l.places;
  passed : Passed (double_at l.list (words l.names)) (words l.names) l.i;
}
