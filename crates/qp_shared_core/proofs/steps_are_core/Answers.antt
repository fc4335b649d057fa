use Rattle.qp_shared_core.proofs.Laws.{steps-are-core}
use Rattle.qp_shared_core.proofs.steps_are_core.Goals as goal

pub returns : goal.returns
returns c = steps-are-core
