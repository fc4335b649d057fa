use Rattle.qp_table.proofs.QueueLawLemmas.{lays_keep_the_rule as law}
use Rattle.qp_table.proofs.queue_laws.lays_keep_the_rule.Goals as goal

pub returns : goal.returns
returns c = law
