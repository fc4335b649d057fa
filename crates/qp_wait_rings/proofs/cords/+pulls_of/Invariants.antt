use Rattle.std.proofs.Common.{length}
use Rattle.qp_wait_rings.proofs.cords.+pulls_of.Given as goal

abbrev pub decreases-pulls_of : goal.decreases-pulls_of
decreases-pulls_of l = length l.cords.now
