use Rattle.std.proofs.Common.{length}
use Rattle.qp_check_shapes.proofs.shape_publication.+run.Given as goal

abbrev pub decreases-run : goal.decreases-run
decreases-run l = length l.told.now
