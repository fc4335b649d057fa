use Rattle.qp_system.proofs.LawLemmas.{refusals_are_one as law}
use Rattle.qp_system.proofs.laws.refusals_are_one.Goals as goal

pub returns : goal.returns
returns c = law
