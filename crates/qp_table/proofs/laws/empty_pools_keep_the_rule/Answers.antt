use Rattle.qp_table.proofs.LawLemmas.{empty_pools_keep_the_rule as law}
use Rattle.qp_table.proofs.laws.empty_pools_keep_the_rule.Goals as goal

pub returns : goal.returns
returns c = law
