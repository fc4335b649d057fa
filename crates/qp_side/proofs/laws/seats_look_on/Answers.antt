use Rattle.qp_side.proofs.Onlookers.{seats-look-on as law}
use Rattle.qp_side.proofs.laws.seats_look_on.Goals as goal

pub returns : goal.returns
returns c = law
