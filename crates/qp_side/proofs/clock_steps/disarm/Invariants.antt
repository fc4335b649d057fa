use Rattle.qp_side.specs.Told.{DisarmTold}
use Rattle.qp_side.proofs.clock_steps.disarm.Given as goal

abbrev pub ghosts-exchange : goal.ghosts-exchange
ghosts-exchange g a = record { tells = λ v n u. DisarmTold a._about.by a._about.timer a.old a.new v n u }
