use Rattle.qp_model.proofs.PromiseLemmas.{queue_loses_nothing as law}
use Rattle.qp_model.proofs.promises.queues_lose_nothing.Goals as goal

pub returns : goal.returns
returns c = law
