use Rattle.qp_shared_lane.proofs.LawLemmas.{lanes_tell_their_logs as law}
use Rattle.qp_shared_lane.proofs.laws.lanes_tell_their_logs.Goals as goal

pub returns : goal.returns
returns c = law
