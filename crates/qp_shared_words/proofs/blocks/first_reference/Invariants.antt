use Rattle.qp_table.specs.Told.{FirstTold}
use Rattle.qp_shared_words.proofs.blocks.first_reference.Given as goal

abbrev pub ghosts-add : goal.ghosts-add
ghosts-add a = record { tells = FirstTold a.words.now.shared.key a._about.by a._about.pool a._about.block }
