use Rattle.qp_side.specs.Told.{eyed_clock, EyeTimerTold}
use Rattle.qp_side.proofs.clock_steps.look_at.Given as goal

abbrev pub ghosts-look : goal.ghosts-look
ghosts-look a = record { tells = λ v n u. EyeTimerTold (eyed_clock a._about.timer) a._about.timer v n u }
