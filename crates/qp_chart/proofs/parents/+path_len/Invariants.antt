use Rattle.qp_chart.proofs.parents.+path_len.Given as goal

abbrev pub decreases-path_len : goal.decreases-path_len
decreases-path_len l = l.steps
