use Rattle.qp_table.proofs.StepLawLemmas.{tries_tell as law}
use Rattle.qp_table.proofs.step_laws.tries_tell.Goals as goal

pub returns : goal.returns
returns c = law
