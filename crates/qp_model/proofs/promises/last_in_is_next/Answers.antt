use Rattle.qp_model.proofs.PromiseLemmas.{last_in_is_next as law}
use Rattle.qp_model.proofs.promises.last_in_is_next.Goals as goal

pub returns : goal.returns
returns c = law
