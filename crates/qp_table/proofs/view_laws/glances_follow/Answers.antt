use Rattle.qp_table.proofs.ViewLawLemmas.{glances_follow as law}
use Rattle.qp_table.proofs.view_laws.glances_follow.Goals as goal

pub returns : goal.returns
returns c = law
