use Rattle.qp_model.proofs.LawLemmas.{kernel_rests_where_all_are_empty as law}
use Rattle.qp_model.proofs.laws.the_kernel_rests_where_all_are_empty.Goals as goal

pub returns : goal.returns
returns c = law
