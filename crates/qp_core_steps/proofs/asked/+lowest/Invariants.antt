use Rattle.qp_core_steps.proofs.asked.+lowest.Given as goal

abbrev pub decreases-lowest : goal.decreases-lowest
decreases-lowest l = l.left
