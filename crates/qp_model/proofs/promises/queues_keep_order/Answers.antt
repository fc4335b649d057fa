use Rattle.qp_model.proofs.PromiseLemmas.{queue_keeps_order, first_in_keep_order}
use Rattle.qp_model.proofs.promises.queues_keep_order.Goals as goal

pub returns : goal.returns
returns c = record { alone = queue_keeps_order; among = first_in_keep_order }
