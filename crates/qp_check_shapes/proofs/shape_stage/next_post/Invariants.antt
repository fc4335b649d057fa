use Rattle.std.proofs.Common.{◌≡◌}
use Rattle.qp_check_shapes.specs.ShapePublication.{next_post}
use Rattle.qp_check_shapes.proofs.shape_stage.next_post.Given as goal

abbrev pub invariant-loop-n : goal.invariant-loop-n
invariant-loop-n l = next_post l.entry l.set l.ceiling l.below ≡ next_post l.entry l.set l.ceiling l.n

abbrev pub decreases-loop-n : goal.decreases-loop-n
decreases-loop-n l = l.n
