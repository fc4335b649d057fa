use Rattle.qp_core.proofs.state.+add_serves.Given as goal

abbrev pub decreases-add_serves : goal.decreases-add_serves
decreases-add_serves l = l.n
