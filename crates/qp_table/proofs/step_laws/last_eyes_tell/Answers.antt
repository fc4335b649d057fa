use Rattle.qp_table.proofs.StepLawLemmas.{last_eyes_tell as law}
use Rattle.qp_table.proofs.step_laws.last_eyes_tell.Goals as goal

pub returns : goal.returns
returns c = law
