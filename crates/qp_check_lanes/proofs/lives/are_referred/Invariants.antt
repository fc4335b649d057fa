use Rattle.std.proofs.Common.{◌≡◌, ◌<◌, ◌||◌, ℕ, not, true, false, get_or}
use Rattle.qp_check_lanes.proofs.lives.are_referred.Given as goal

abbrev pub invariant-loop-n : goal.invariant-loop-n
invariant-loop-n l = (k : ℕ) → k < l.n → (get_or l.marks k false || not (get_or l.flags k false)) ≡ true
