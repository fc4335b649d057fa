use Rattle.qp_table.proofs.ViewLawLemmas.{looks_show as law}
use Rattle.qp_table.proofs.view_laws.looks_show.Goals as goal

pub returns : goal.returns
returns c = law
