use Rattle.qp_side.proofs.SeatLemmas.{whole as law}
use Rattle.qp_side.proofs.laws.side_whole_is_known.Goals as goal

pub returns : goal.returns
returns c = law
