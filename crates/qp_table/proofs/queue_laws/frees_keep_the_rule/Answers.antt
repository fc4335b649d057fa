use Rattle.qp_table.proofs.QueueLawLemmas.{frees_keep_the_rule as law}
use Rattle.qp_table.proofs.queue_laws.frees_keep_the_rule.Goals as goal

pub returns : goal.returns
returns c = law
