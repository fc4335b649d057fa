use Rattle.qp_table.specs.Told.{DropTold}
use Rattle.qp_shared_words.proofs.blocks.drop_reference.Given as goal

abbrev pub ghosts-add : goal.ghosts-add
ghosts-add a = record { tells = DropTold a.words.now.shared.key a._about.by a._about.pool a._about.block a._about.name }
