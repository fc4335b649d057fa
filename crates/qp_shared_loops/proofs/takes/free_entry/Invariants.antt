use Rattle.qp_table.specs.Told.{FreeTold}
use Rattle.qp_shared_loops.specs.Ends.{KnowsEvent}
use Rattle.qp_shared_loops.proofs.takes.free_entry.Given as goal

abbrev pub ghosts-add : goal.ghosts-add
ghosts-add a = record { tells = λ v n u. FreeTold a.words.now.shared.key a._about.to a._about.old (record { pool = a._about.pool; block = a._about.low; name = a._about.name }) v n u × KnowsEvent a.words.now.shared.key (record { pool = a._about.pool; block = a._about.low; name = a._about.name }) u }
