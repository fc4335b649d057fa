use Rattle.qp_table.proofs.StepLawLemmas.{pool_eyes_tell as law}
use Rattle.qp_table.proofs.step_laws.pool_eyes_tell.Goals as goal

pub returns : goal.returns
returns c = law
