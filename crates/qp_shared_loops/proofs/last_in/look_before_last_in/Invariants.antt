use Rattle.qp_table.specs.Told.{EyeLastTold}
use Rattle.qp_shared_loops.specs.Ends.{FitsCells}
use Rattle.qp_shared_loops.proofs.last_in.look_before_last_in.Given as goal

abbrev pub ghosts-look : goal.ghosts-look
ghosts-look a = record { tells = λ v n u. EyeLastTold a.words.now.shared.key a._about.to v n u × FitsCells a.words.now.shared.key a._about.to n }
