use Rattle.std.proofs.Common.{◌≡◌, ℕ, ◌<◌, length, slice_index}
use Rattle.qp_model.specs.Sites.{ring_of}
use Rattle.qp_shared_lane.proofs.rings.Rings.of.Given as goal

-- the lengths so far
abbrev pub invariant-loop-a : goal.invariant-loop-a
invariant-loop-a l = (length l.lengths ≡ 33) × ((k : ℕ) → k < l.a → slice_index l.lengths k ≡ ring_of l.sys k)
