use Rattle.qp_table.specs.Told.{SwapTold}
use Rattle.qp_shared_words.proofs.queues.empty_front.Given as goal

abbrev pub ghosts-swap : goal.ghosts-swap
ghosts-swap a = record { tells = SwapTold a.words.now.shared.key a._about.to a._about.old }
