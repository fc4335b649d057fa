use Rattle.qp_table.proofs.StepLawLemmas.{lays_tell as law}
use Rattle.qp_table.proofs.step_laws.lays_tell.Goals as goal

pub returns : goal.returns
returns c = law
