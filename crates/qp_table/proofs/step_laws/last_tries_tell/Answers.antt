use Rattle.qp_table.proofs.StepLawLemmas.{last_tries_tell as law}
use Rattle.qp_table.proofs.step_laws.last_tries_tell.Goals as goal

pub returns : goal.returns
returns c = law
