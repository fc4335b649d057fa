use Rattle.qp_table.proofs.StepLawLemmas.{reads_tell as law}
use Rattle.qp_table.proofs.step_laws.reads_tell.Goals as goal

pub returns : goal.returns
returns c = law
