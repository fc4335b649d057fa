use Rattle.qp_table.proofs.StepLawLemmas.{swaps_tell as law}
use Rattle.qp_table.proofs.step_laws.swaps_tell.Goals as goal

pub returns : goal.returns
returns c = law
