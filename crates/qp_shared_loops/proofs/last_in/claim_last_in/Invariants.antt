use Rattle.qp_table.specs.Told.{LastTold}
use Rattle.qp_shared_loops.specs.Ends.{FitsCells}
use Rattle.qp_shared_loops.proofs.last_in.claim_last_in.Given as goal

abbrev pub ghosts-exchange : goal.ghosts-exchange
ghosts-exchange g a = record { tells = λ v n u. LastTold a.words.now.shared.key a._about.to (record { pool = a._about.pool; block = a._about.low; name = a._about.name }) v a.old n u × FitsCells a.words.now.shared.key a._about.to n }
