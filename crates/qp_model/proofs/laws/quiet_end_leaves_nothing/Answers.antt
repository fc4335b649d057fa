use Rattle.qp_model.proofs.LawLemmas.{quiet_end_leaves_nothing as law}
use Rattle.qp_model.proofs.laws.quiet_end_leaves_nothing.Goals as goal

pub returns : goal.returns
returns c = law
