use Rattle.qp_model_order.proofs.Rests.{rests-idle}
use Rattle.qp_model_order.proofs.rest_laws.the_kernel_rests_where_nothing_waits.Goals as goal

pub returns : goal.returns
returns c = rests-idle
