use Rattle.qp_side.proofs.SeatLemmas.{starts as law}
use Rattle.qp_side.proofs.laws.side_starts.Goals as goal

pub returns : goal.returns
returns c = law
