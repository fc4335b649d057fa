use Rattle.qp_table.specs.Told.{EyeTold}
use Rattle.qp_shared_words.proofs.queues.look_before_post.Given as goal

abbrev pub ghosts-look : goal.ghosts-look
ghosts-look a = record { tells = EyeTold a.words.now.shared.key a._about.to a._about.by a._about.margin }
