use Rattle.std.proofs.Common.{ℕ, ◌<◌}
use Rattle.qp_replay.specs.Remaining.{HasNext}
use Rattle.qp_replay.proofs.remaining.Remaining.unfinished.Given as goal

abbrev pub invariant-loop-n : goal.invariant-loop-n
invariant-loop-n l = (k : ℕ) → k < l.n → HasNext l.self k → ⊥
