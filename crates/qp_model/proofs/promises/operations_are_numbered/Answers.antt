use Rattle.qp_model.proofs.PromiseLemmas.{operations_are_numbered as law}
use Rattle.qp_model.proofs.promises.operations_are_numbered.Goals as goal

pub returns : goal.returns
returns c = law
