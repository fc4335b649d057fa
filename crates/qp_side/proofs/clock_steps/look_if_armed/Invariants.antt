use Rattle.qp_side.specs.Told.{eyed_idle, EyeTimerTold}
use Rattle.qp_side.proofs.clock_steps.look_if_armed.Given as goal

abbrev pub ghosts-look : goal.ghosts-look
ghosts-look a = record { tells = λ v n u. EyeTimerTold (eyed_idle a._about.by a._about.timer) a._about.timer v n u }
