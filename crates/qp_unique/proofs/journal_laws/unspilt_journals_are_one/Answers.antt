use Rattle.qp_unique.proofs.OnlyLemmas.{unspilt-one}
use Rattle.qp_unique.proofs.journal_laws.unspilt_journals_are_one.Goals as goal

pub returns : goal.returns
returns c = unspilt-one
