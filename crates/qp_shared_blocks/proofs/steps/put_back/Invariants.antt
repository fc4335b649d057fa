use Rattle.qp_shared_blocks.specs.Ends.{ReturnTold}
use Rattle.qp_shared_blocks.proofs.steps.put_back.Given as goal

abbrev pub ghosts-add : goal.ghosts-add
ghosts-add a = record { tells = ReturnTold a.words.now.shared.key a._about.by a._about.pool a._about.block a._about.old }
