use Rattle.qp_side.specs.Told.{TickTold}
use Rattle.qp_side.proofs.clock_steps.tick.Given as goal

abbrev pub ghosts-exchange : goal.ghosts-exchange
ghosts-exchange g a = record { tells = λ v n u. TickTold a._about.by a._about.timer a.old a.new v n u }
