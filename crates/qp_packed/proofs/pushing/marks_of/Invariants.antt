use Rattle.std.proofs.Common.{◌≡◌, ◌≤◌, drop, length}
use Rattle.qp_packed.specs.Packing.{wide_marks}
use Rattle.qp_packed.proofs.pushing.marks_of.Given as goal

abbrev pub invariant-loop-left : goal.invariant-loop-left
invariant-loop-left l = record { marked : l.marked ≡ wide_marks (drop l.left l.xs); within : l.left ≤ length l.xs }

abbrev pub decreases-loop-left : goal.decreases-loop-left
decreases-loop-left l = l.left
