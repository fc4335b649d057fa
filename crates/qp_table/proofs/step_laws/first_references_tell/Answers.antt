use Rattle.qp_table.proofs.StepLawLemmas.{first_references_tell as law}
use Rattle.qp_table.proofs.step_laws.first_references_tell.Goals as goal

pub returns : goal.returns
returns c = law
