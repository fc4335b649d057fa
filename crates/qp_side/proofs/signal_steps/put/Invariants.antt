use Rattle.qp_side.specs.Told.{SubTold}
use Rattle.qp_side.proofs.signal_steps.put.Given as goal

abbrev pub ghosts-add : goal.ghosts-add
ghosts-add a = record { tells = λ v n u. SubTold a._about.by a._about.to v n u }
