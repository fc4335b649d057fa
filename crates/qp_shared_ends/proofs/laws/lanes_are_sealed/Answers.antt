use Rattle.qp_shared_ends.proofs.Sealing.{lanes_are_sealed as law}
use Rattle.qp_shared_ends.proofs.laws.lanes_are_sealed.Goals as goal

pub returns : goal.returns
returns c = law
