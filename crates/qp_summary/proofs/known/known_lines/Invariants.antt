use Rattle.std.proofs.Common.{take}
use Rattle.qp_model.specs.OutputSummary.{AreObjectLines}
use Rattle.qp_summary.proofs.known.known_lines.Given as goal

abbrev pub invariant-loop-d : goal.invariant-loop-d
invariant-loop-d l = AreObjectLines l.sys l.j (take l.d-index l.d-items) l.lines
