use Rattle.qp_table.proofs.ViewLawLemmas.{records_gain as law}
use Rattle.qp_table.proofs.view_laws.records_gain.Goals as goal

pub returns : goal.returns
returns c = law
