use Rattle.qp_table.specs.Told.{LayTold}
use Rattle.qp_shared_words.proofs.queues.lay.Given as goal

abbrev pub ghosts-store : goal.ghosts-store
ghosts-store a = record { tells = LayTold a._about.to a._about.old (record { pool = a._about.pool; block = a._about.low; name = a._about.name }) }
