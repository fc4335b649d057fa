use Rattle.std.proofs.Common.{length}
use Rattle.qp_wait.proofs.hanging.+add_cords.Given as goal

abbrev pub decreases-add_cords : goal.decreases-add_cords
decreases-add_cords l = length l.wakers.now
