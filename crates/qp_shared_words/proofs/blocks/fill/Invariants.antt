use Rattle.qp_table.specs.Told.{FillTold}
use Rattle.qp_shared_words.proofs.blocks.fill.Given as goal

abbrev pub ghosts-store : goal.ghosts-store
ghosts-store a = record { tells = FillTold a._about.pool a._about.block a._about.to a._about.new }
