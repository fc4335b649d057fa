use Rattle.std.proofs.Common.{length}
use Rattle.qp_core_steps.proofs.queues.+oldest.Given as goal

abbrev pub decreases-oldest : goal.decreases-oldest
decreases-oldest l = length l.places.now
