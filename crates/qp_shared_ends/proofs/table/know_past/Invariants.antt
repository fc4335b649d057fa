use Rattle.qp_shared_ends.specs.Seats.{StaysTold, IsOnePast}
use Rattle.qp_shared_ends.proofs.table.know_past.Given as goal

abbrev pub ghosts-look : goal.ghosts-look
ghosts-look a = record { tells = λ v n u. StaysTold (IsOnePast a.words.now.shared.key) v u }
