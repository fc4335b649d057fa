use Rattle.qp_side.proofs.SeatLemmas.{seats-given as law}
use Rattle.qp_side.proofs.laws.seats_are_given.Goals as goal

pub returns : goal.returns
returns c = law
