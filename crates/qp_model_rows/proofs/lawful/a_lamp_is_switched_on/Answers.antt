use Rattle.qp_model_rows.proofs.Switched.{lawful}
use Rattle.qp_model_rows.proofs.lawful.a_lamp_is_switched_on.Goals as goal

pub returns : goal.returns
returns c = lawful
