use Rattle.std.proofs.Common.{length}
use Rattle.qp_core.proofs.splits.+add_gives.Given as goal

abbrev pub decreases-add_gives : goal.decreases-add_gives
decreases-add_gives l = length l.gives.now
