use Rattle.qp_table.proofs.StepLawLemmas.{frees_tell as law}
use Rattle.qp_table.proofs.step_laws.frees_tell.Goals as goal

pub returns : goal.returns
returns c = law
