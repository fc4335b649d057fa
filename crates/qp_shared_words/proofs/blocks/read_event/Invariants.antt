use Rattle.qp_table.specs.Told.{ReadTold}
use Rattle.qp_shared_words.proofs.blocks.read_event.Given as goal

abbrev pub ghosts-look : goal.ghosts-look
ghosts-look a = record { tells = ReadTold a.words.now.shared.key a._about.pool a._about.block a._about.name a._about.to }
