use Rattle.qp_unique.proofs.OnlyLemmas.{short-unspilt}
use Rattle.qp_unique.proofs.journal_laws.short_journals_are_unspilt.Goals as goal

pub returns : goal.returns
returns c = short-unspilt
