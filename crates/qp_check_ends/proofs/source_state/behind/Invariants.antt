use Rattle.std.proofs.Common.{◌≡◌, Some, drop}
use Rattle.qp_check_ends.specs.SourceState.{Between, source_after}
use Rattle.qp_check_ends.specs.AsSource.{as_source}
use Rattle.qp_check_ends.proofs.source_state.behind.Given as goal

abbrev pub invariant-loop-t : goal.invariant-loop-t
invariant-loop-t l =
    source_after l.source.sys.now l.source.kernel (Some (Between 1 l.source.stimuli.now)) l.told
    ≡ source_after l.source.sys.now l.source.kernel (Some (as_source l.source.sys.now l.source.stimuli.now l.rest)) (drop l.t-index l.told)
