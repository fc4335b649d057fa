use Rattle.qp_shared_lane.proofs.LawLemmas.{hands_stand as law}
use Rattle.qp_shared_lane.proofs.laws.hands_stand.Goals as goal

pub returns : goal.returns
returns c = law
