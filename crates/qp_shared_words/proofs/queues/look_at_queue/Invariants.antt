use Rattle.qp_table.specs.Told.{LookTold}
use Rattle.qp_shared_words.proofs.queues.look_at_queue.Given as goal

abbrev pub ghosts-look : goal.ghosts-look
ghosts-look a = record { tells = LookTold a.words.now.shared.key a._about.to }
