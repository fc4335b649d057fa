use Rattle.qp_table.proofs.LawLemmas.{whole_is_known as law}
use Rattle.qp_table.proofs.laws.whole_is_known.Goals as goal

pub returns : goal.returns
returns c = law
