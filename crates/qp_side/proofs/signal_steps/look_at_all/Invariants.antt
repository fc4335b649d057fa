use Rattle.qp_side.specs.Told.{PubTold}
use Rattle.qp_side.proofs.signal_steps.look_at_all.Given as goal

abbrev pub ghosts-look : goal.ghosts-look
ghosts-look a = record { tells = λ v n u. PubTold a.words.now.shared.key a._about.by a._about.to v n u }
