use Rattle.qp_shared_lane.proofs.LawLemmas.{own_members_are_known as law}
use Rattle.qp_shared_lane.proofs.laws.own_members_are_known.Goals as goal

pub returns : goal.returns
returns c = law
