use Rattle.qp_side.specs.Seats.{WholeTold}
use Rattle.qp_side.proofs.words.know_whole.Given as goal

abbrev pub ghosts-look : goal.ghosts-look
ghosts-look a = record { tells = λ v n u. WholeTold a.words.now.shared.key v u }
