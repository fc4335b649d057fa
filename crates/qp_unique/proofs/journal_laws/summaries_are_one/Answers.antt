use Rattle.qp_unique.proofs.SummaryLemmas.{one-summary}
use Rattle.qp_unique.proofs.journal_laws.summaries_are_one.Goals as goal

pub returns : goal.returns
returns c = one-summary
