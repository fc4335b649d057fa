use Rattle.qp_table.proofs.StepLawLemmas.{drops_tell as law}
use Rattle.qp_table.proofs.step_laws.drops_tell.Goals as goal

pub returns : goal.returns
returns c = law
