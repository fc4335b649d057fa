use Rattle.std.proofs.Common.{length}
use Rattle.qp_wait.proofs.hanging.+perch_of.Given as goal

abbrev pub decreases-perch_of : goal.decreases-perch_of
decreases-perch_of l = length l.wakers.now
