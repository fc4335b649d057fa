use Rattle.qp_table.proofs.QueueLawLemmas.{empties_keep_the_rule as law}
use Rattle.qp_table.proofs.queue_laws.empties_keep_the_rule.Goals as goal

pub returns : goal.returns
returns c = law
