use Rattle.qp_side.specs.Told.{eyed_armed, EyeTimerTold}
use Rattle.qp_side.proofs.clock_steps.look_to_arm.Given as goal

abbrev pub ghosts-look : goal.ghosts-look
ghosts-look a = record { tells = λ v n u. EyeTimerTold (eyed_armed a._about.by a._about.timer) a._about.timer v n u }
