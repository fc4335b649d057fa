use Rattle.qp_side.proofs.SeatLemmas.{seats-join as law}
use Rattle.qp_side.proofs.laws.seats_join.Goals as goal

pub returns : goal.returns
returns c = law
