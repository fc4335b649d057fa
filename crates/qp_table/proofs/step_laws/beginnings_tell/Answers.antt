use Rattle.qp_table.proofs.StepLawLemmas.{beginnings_tell as law}
use Rattle.qp_table.proofs.step_laws.beginnings_tell.Goals as goal

pub returns : goal.returns
returns c = law
