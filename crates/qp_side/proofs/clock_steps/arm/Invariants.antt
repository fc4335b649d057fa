use Rattle.qp_side.specs.Told.{ArmTold}
use Rattle.qp_side.proofs.clock_steps.arm.Given as goal

abbrev pub ghosts-exchange : goal.ghosts-exchange
ghosts-exchange g a = record { tells = λ v n u. ArmTold a._about.by a._about.timer a._about.ticks a._about.interval a.old a.new v n u }
