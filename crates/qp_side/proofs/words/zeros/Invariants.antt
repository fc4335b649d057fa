use Rattle.std.proofs.Common.{◌≡◌, ℕ, ◌<◌, length, get_or}
use Rattle.qp_side.proofs.words.zeros.Given as goal

abbrev pub invariant-loop-at : goal.invariant-loop-at
invariant-loop-at l = (length l.items.items ≡ l.at) × ((k : ℕ) → k < l.at → get_or l.items.items k 0 ≡ 0)
