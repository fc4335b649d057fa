use Rattle.qp_check.proofs.SourceFindLemmas.{SourcesFrom}
use Rattle.qp_check.proofs.run_parts.sources_broken.Given as goal

abbrev pub invariant-loop-i : goal.invariant-loop-i
invariant-loop-i l = SourcesFrom l.sys l.j l.source-items l.first l.i
