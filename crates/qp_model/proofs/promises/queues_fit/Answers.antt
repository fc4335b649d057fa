use Rattle.qp_model.proofs.PromiseLemmas.{queue_fits as law}
use Rattle.qp_model.proofs.promises.queues_fit.Goals as goal

pub returns : goal.returns
returns c = law
