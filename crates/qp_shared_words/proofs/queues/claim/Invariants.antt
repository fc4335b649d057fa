use Rattle.qp_table.specs.Told.{TryTold}
use Rattle.qp_shared_words.proofs.queues.claim.Given as goal

abbrev pub ghosts-exchange : goal.ghosts-exchange
ghosts-exchange g a = record { tells = λ v n u. TryTold a.words.now.shared.key a._about.to a._about.by a._about.margin (record { pool = a._about.pool; block = a._about.low; name = a._about.name }) v a._about.old n u }
