use Rattle.qp_table.specs.Told.{NilTold}
use Rattle.qp_shared_words.specs.Nils.{is_new}
use Rattle.qp_shared_words.proofs.queues.look_before_take.Given as goal

abbrev pub ghosts-look : goal.ghosts-look
ghosts-look a = record { tells = NilTold a.words.now.shared.key (is_new a._about.last) a._about.to }
