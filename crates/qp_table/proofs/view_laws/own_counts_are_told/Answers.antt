use Rattle.qp_table.proofs.ViewLawLemmas.{own_counts_are_told as law}
use Rattle.qp_table.proofs.view_laws.own_counts_are_told.Goals as goal

pub returns : goal.returns
returns c = law
