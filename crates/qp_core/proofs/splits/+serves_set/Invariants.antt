use Rattle.qp_core.proofs.splits.+serves_set.Given as goal

abbrev pub decreases-serves_set : goal.decreases-serves_set
decreases-serves_set l = l.n
