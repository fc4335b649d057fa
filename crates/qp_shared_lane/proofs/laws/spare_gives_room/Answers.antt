use Rattle.qp_shared_lane.proofs.LawLemmas.{spare_gives_room as law}
use Rattle.qp_shared_lane.proofs.laws.spare_gives_room.Goals as goal

pub returns : goal.returns
returns c = law
