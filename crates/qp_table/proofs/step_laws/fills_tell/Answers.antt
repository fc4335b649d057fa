use Rattle.qp_table.proofs.StepLawLemmas.{fills_tell as law}
use Rattle.qp_table.proofs.step_laws.fills_tell.Goals as goal

pub returns : goal.returns
returns c = law
