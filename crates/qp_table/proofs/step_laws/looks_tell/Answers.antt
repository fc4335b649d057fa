use Rattle.qp_table.proofs.StepLawLemmas.{looks_tell as law}
use Rattle.qp_table.proofs.step_laws.looks_tell.Goals as goal

pub returns : goal.returns
returns c = law
