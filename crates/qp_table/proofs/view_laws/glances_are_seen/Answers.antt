use Rattle.qp_table.proofs.ViewLawLemmas.{glances_are_seen as law}
use Rattle.qp_table.proofs.view_laws.glances_are_seen.Goals as goal

pub returns : goal.returns
returns c = law
