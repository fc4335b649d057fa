use Rattle.qp_unique.proofs.OnlyLemmas.{each-tidy}
use Rattle.qp_unique.proofs.journal_laws.one_thread_journals_are_tidy.Goals as goal

pub returns : goal.returns
returns c = each-tidy
