use Rattle.qp_model_rows.proofs.SwitchedSummary.{summed_up}
use Rattle.qp_model_rows.proofs.summaries.a_lamp_is_on.Goals as goal

pub returns : goal.returns
returns c = summed_up
