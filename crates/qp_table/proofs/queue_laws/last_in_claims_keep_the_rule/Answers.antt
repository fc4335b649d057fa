use Rattle.qp_table.proofs.QueueLawLemmas.{last_in_claims_keep_the_rule as law}
use Rattle.qp_table.proofs.queue_laws.last_in_claims_keep_the_rule.Goals as goal

pub returns : goal.returns
returns c = law
