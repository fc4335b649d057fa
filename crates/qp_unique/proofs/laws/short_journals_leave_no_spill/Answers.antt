use Rattle.qp_unique.proofs.UniqueLemmas.{short_journals_leave_no_spill as law}
use Rattle.qp_unique.proofs.laws.short_journals_leave_no_spill.Goals as goal

pub returns : goal.returns
returns c = law
