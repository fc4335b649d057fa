use Rattle.qp_kernel_end.proofs.OutcomeLemmas.{outcome-end}
use Rattle.qp_kernel_end.proofs.laws.the_outcome_is_the_end.Goals as goal

pub returns : goal.returns
returns c = outcome-end
