use Rattle.qp_unique.proofs.ComesLaw.{records_come_next as law}
use Rattle.qp_unique.proofs.laws.records_come_next.Goals as goal

pub returns : goal.returns
returns c = law
