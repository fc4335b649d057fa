use Rattle.qp_model_rows.proofs.NotDropped.{broken}
use Rattle.qp_model_rows.proofs.unlawful.a_reference_not_dropped.Goals as goal

pub returns : goal.returns
returns c = broken
