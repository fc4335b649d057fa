use Rattle.qp_side.specs.Told.{RearmTold}
use Rattle.qp_side.proofs.clock_steps.rearm.Given as goal

abbrev pub ghosts-exchange : goal.ghosts-exchange
ghosts-exchange g a = record { tells = λ v n u. RearmTold a._about.by a._about.timer a._about.ticks a.old a.new v n u }
