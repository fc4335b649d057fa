use Rattle.qp_table.proofs.ViewLawLemmas.{meets_see_both as law}
use Rattle.qp_table.proofs.view_laws.meets_see_both.Goals as goal

pub returns : goal.returns
returns c = law
