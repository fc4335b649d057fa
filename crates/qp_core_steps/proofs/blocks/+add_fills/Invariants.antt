use Rattle.std.proofs.Common.{length}
use Rattle.qp_core_steps.proofs.blocks.+add_fills.Given as goal

abbrev pub decreases-add_fills : goal.decreases-add_fills
decreases-add_fills l = length l.values.now
