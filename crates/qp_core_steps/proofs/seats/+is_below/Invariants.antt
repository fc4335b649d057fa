use Rattle.std.proofs.Common.{length}
use Rattle.qp_core_steps.proofs.seats.+is_below.Given as goal

abbrev pub decreases-is_below : goal.decreases-is_below
decreases-is_below l = length l.logs.now
