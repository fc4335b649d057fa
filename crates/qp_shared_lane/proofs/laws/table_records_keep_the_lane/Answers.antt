use Rattle.qp_shared_lane.proofs.LawLemmas.{table_records_keep_the_lane as law}
use Rattle.qp_shared_lane.proofs.laws.table_records_keep_the_lane.Goals as goal

pub returns : goal.returns
returns c = law
