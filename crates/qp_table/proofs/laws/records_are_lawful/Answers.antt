use Rattle.qp_table.proofs.LawLemmas.{records_are_lawful as law}
use Rattle.qp_table.proofs.laws.records_are_lawful.Goals as goal

pub returns : goal.returns
returns c = law
