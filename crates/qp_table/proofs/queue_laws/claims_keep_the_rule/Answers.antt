use Rattle.qp_table.proofs.QueueLawLemmas.{claims_keep_the_rule as law}
use Rattle.qp_table.proofs.queue_laws.claims_keep_the_rule.Goals as goal

pub returns : goal.returns
returns c = law
