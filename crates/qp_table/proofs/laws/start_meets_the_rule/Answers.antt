use Rattle.qp_table.proofs.LawLemmas.{start_meets_the_rule as law}
use Rattle.qp_table.proofs.laws.start_meets_the_rule.Goals as goal

pub returns : goal.returns
returns c = law
