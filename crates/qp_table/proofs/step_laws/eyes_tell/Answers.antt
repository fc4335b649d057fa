use Rattle.qp_table.proofs.StepLawLemmas.{eyes_tell as law}
use Rattle.qp_table.proofs.step_laws.eyes_tell.Goals as goal

pub returns : goal.returns
returns c = law
