use Rattle.qp_table.proofs.StepLawLemmas.{empty_queues_tell as law}
use Rattle.qp_table.proofs.step_laws.empty_queues_tell.Goals as goal

pub returns : goal.returns
returns c = law
