use Rattle.qp_model_rows.proofs.Preempted.{lawful}
use Rattle.qp_model_rows.proofs.lawful.a_step_is_preempted.Goals as goal

pub returns : goal.returns
returns c = lawful
