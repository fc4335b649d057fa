use Rattle.qp_core_steps.proofs.looks.+ones.Given as goal

abbrev pub decreases-ones : goal.decreases-ones
decreases-ones l = l.left
