use Rattle.qp_unique.proofs.OnlyLemmas.{all-one}
use Rattle.qp_unique.proofs.journal_laws.one_thread_journals_are_one.Goals as goal

pub returns : goal.returns
returns c = all-one
