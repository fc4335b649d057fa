use Rattle.std.proofs.Common.{take}
use Rattle.qp_chart_names.specs.Numbering.{IsNumbering}
use Rattle.qp_chart_names.specs.Known.{words}
use Rattle.qp_chart_names.proofs.tables.numbered.Given as goal

abbrev pub invariant-loop-i : goal.invariant-loop-i
invariant-loop-i l = IsNumbering l.first (words (take l.i l.names)) l.places
