use Rattle.qp_side.specs.Told.{FoundTold}
use Rattle.qp_side.proofs.stop_steps.find.Given as goal

abbrev pub ghosts-look : goal.ghosts-look
ghosts-look a = record { tells = λ v n u. FoundTold v n u }
