use Rattle.qp_shared_ends.specs.Seats.{NumberTold}
use Rattle.qp_shared_ends.proofs.side.become_lane.Given as goal

abbrev pub ghosts-look : goal.ghosts-look
ghosts-look a = record { tells = λ v n u. NumberTold a._about.old v u }
