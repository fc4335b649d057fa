use Rattle.qp_check.proofs.SourceFindLemmas.{SpillsFrom}
use Rattle.qp_check.proofs.run_parts.spills_stand.Given as goal

abbrev pub invariant-loop-i : goal.invariant-loop-i
invariant-loop-i l = SpillsFrom l.sys l.j l.cuts l.source-items l.i
