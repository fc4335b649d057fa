use Rattle.qp_chart.proofs.TreeLemmas.{exits_walk_out as law}
use Rattle.qp_chart.proofs.tree_laws.exits_walk_out.Goals as goal

pub returns : goal.returns
returns c = law
