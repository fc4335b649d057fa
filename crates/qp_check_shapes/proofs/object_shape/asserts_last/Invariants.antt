use Rattle.std.proofs.Common.{◌≡◌, length}
use Rattle.qp_model.specs.ObjectShape.{asserts_last}
use Rattle.qp_check_shapes.proofs.object_shape.asserts_last.Given as goal

abbrev pub invariant-loop-first : goal.invariant-loop-first
invariant-loop-first l = asserts_last l.told ≡ asserts_last l.left

abbrev pub decreases-loop-first : goal.decreases-loop-first
decreases-loop-first l = length l.left
