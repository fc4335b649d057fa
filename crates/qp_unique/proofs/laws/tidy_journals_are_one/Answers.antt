use Rattle.qp_unique.proofs.UniqueLemmas.{tidy_journals_are_one as law}
use Rattle.qp_unique.proofs.laws.tidy_journals_are_one.Goals as goal

pub returns : goal.returns
returns c = law
