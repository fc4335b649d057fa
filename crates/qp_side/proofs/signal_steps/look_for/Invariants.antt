use Rattle.qp_side.specs.Told.{EyeSignalTold}
use Rattle.qp_side.proofs.signal_steps.look_for.Given as goal

abbrev pub ghosts-look : goal.ghosts-look
ghosts-look a = record { tells = λ v n u. EyeSignalTold a._about.bit a._about.by a._about.to v n u }
