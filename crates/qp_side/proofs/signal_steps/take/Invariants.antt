use Rattle.qp_side.specs.Told.{UnsubTold}
use Rattle.qp_side.proofs.signal_steps.take.Given as goal

abbrev pub ghosts-add : goal.ghosts-add
ghosts-add a = record { tells = λ v n u. UnsubTold a._about.by a._about.to v n u }
