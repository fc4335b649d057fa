use Rattle.qp_shared_lane.proofs.LawLemmas.{side_records_keep_the_lane as law}
use Rattle.qp_shared_lane.proofs.laws.side_records_keep_the_lane.Goals as goal

pub returns : goal.returns
returns c = law
