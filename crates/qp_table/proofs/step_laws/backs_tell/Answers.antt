use Rattle.qp_table.proofs.StepLawLemmas.{backs_tell as law}
use Rattle.qp_table.proofs.step_laws.backs_tell.Goals as goal

pub returns : goal.returns
returns c = law
