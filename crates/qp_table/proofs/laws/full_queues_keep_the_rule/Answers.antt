use Rattle.qp_table.proofs.LawLemmas.{full_queues_keep_the_rule as law}
use Rattle.qp_table.proofs.laws.full_queues_keep_the_rule.Goals as goal

pub returns : goal.returns
returns c = law
