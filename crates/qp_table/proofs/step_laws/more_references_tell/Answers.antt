use Rattle.qp_table.proofs.StepLawLemmas.{more_references_tell as law}
use Rattle.qp_table.proofs.step_laws.more_references_tell.Goals as goal

pub returns : goal.returns
returns c = law
