use Rattle.qp_shared_ends.specs.Seats.{StaysTold}
use Rattle.qp_shared_ends.specs.SeatEnd.{AtEnd}
use Rattle.qp_shared_ends.proofs.table.know_end.Given as goal

abbrev pub ghosts-look : goal.ghosts-look
ghosts-look a = record { tells = λ v n u. StaysTold (AtEnd a.words.now.shared.key) v u }
