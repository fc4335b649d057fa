use Rattle.qp_model_order.proofs.LawLemmas.{neighbours_change_places as law}
use Rattle.qp_model_order.proofs.lane_laws.neighbours_change_places.Goals as goal

pub returns : goal.returns
returns c = law
