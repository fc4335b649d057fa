use Rattle.qp_model_rows.proofs.WrongFloor.{broken}
use Rattle.qp_model_rows.proofs.unlawful.a_look_with_a_wrong_floor.Goals as goal

pub returns : goal.returns
returns c = broken
