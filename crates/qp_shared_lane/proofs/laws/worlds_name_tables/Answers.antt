use Rattle.qp_shared_lane.proofs.LawLemmas.{worlds_name_tables as law}
use Rattle.qp_shared_lane.proofs.laws.worlds_name_tables.Goals as goal

pub returns : goal.returns
returns c = law
