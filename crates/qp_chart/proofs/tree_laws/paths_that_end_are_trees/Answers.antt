use Rattle.qp_chart.proofs.TreeLemmas.{paths_that_end_are_trees as law}
use Rattle.qp_chart.proofs.tree_laws.paths_that_end_are_trees.Goals as goal

pub returns : goal.returns
returns c = law
