use Rattle.qp_side.specs.Told.{HandTold}
use Rattle.qp_side.proofs.stop_steps.hand_in.Given as goal

abbrev pub ghosts-exchange : goal.ghosts-exchange
ghosts-exchange a = record { tells = λ v n u. HandTold a._about.by v n u }
