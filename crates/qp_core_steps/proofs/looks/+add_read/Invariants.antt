use Rattle.std.proofs.Common.{length}
use Rattle.qp_core_steps.proofs.looks.+add_read.Given as goal

abbrev pub decreases-add_read : goal.decreases-add_read
decreases-add_read l = length l.gives.now
