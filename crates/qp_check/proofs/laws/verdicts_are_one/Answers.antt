use Rattle.qp_check.proofs.VerdictLemmas.{verdicts_are_one as law}
use Rattle.qp_check.proofs.laws.verdicts_are_one.Goals as goal

pub returns : goal.returns
returns c = law
