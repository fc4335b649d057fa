use Rattle.std.proofs.Common.{◌≡◌, ◌<◌, ℕ, true, false, get_or}
use Rattle.qp_check_ends.proofs.reference_counts.ReferenceCounts.has_only.Given as goal

abbrev pub invariant-loop-k : goal.invariant-loop-k
invariant-loop-k l = (j : ℕ) → j < l.k → 0 < get_or l.self.counts.items j 0 → get_or l.marks j false ≡ true
