use Rattle.qp_table.specs.Told.{SeenTold}
use Rattle.qp_shared_words.proofs.queues.see_queue.Given as goal

abbrev pub ghosts-look : goal.ghosts-look
ghosts-look a = record { tells = SeenTold a.words.now.shared.key a._about.to }
