use Rattle.std.proofs.Common.{ℕ, ◌<◌}
use Rattle.qp_replay.specs.Remaining.{MayGo}
use Rattle.qp_replay.proofs.remaining.Remaining.lowest.Given as goal

abbrev pub invariant-loop-lane : goal.invariant-loop-lane
invariant-loop-lane l = (k : ℕ) → k < l.lane → MayGo l.self k → ⊥
