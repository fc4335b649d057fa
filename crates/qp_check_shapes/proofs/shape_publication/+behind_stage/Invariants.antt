use Rattle.std.proofs.Common.{length}
use Rattle.qp_check_shapes.proofs.shape_publication.+behind_stage.Given as goal

abbrev pub decreases-behind_stage : goal.decreases-behind_stage
decreases-behind_stage l = length l.told.now
