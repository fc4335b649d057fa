use Rattle.qp_chart.proofs.TreeLemmas.{main_state_is_nearest as law}
use Rattle.qp_chart.proofs.tree_laws.main_state_is_nearest.Goals as goal

pub returns : goal.returns
returns c = law
