use Rattle.std.proofs.Common.{◌≡◌, ◌<◌, ℕ, take, length, get_or, false}
use Rattle.qp_chart.specs.StateTree.{has}
use Rattle.qp_check_lanes.proofs.lives.marked.Given as goal

abbrev pub invariant-loop-n : goal.invariant-loop-n
invariant-loop-n l = record {
  long : length l.marks.items ≡ l.count;
  marked : (k : ℕ) → k < l.count → get_or l.marks.items k false ≡ has (take l.n-index l.places) k;
}
