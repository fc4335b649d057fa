use Rattle.qp_table.proofs.StepLawLemmas.{gives_tell as law}
use Rattle.qp_table.proofs.step_laws.gives_tell.Goals as goal

pub returns : goal.returns
returns c = law
