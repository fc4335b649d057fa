use Rattle.qp_shared_blocks.specs.Ends.{AnotherTold}
use Rattle.qp_shared_blocks.proofs.steps.another.Given as goal

abbrev pub ghosts-add : goal.ghosts-add
ghosts-add a = record { tells = AnotherTold a.words.now.shared.key a._about.by a._about.pool a._about.block }
