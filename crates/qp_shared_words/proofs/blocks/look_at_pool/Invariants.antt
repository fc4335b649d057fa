use Rattle.std.specs.Prelude.{◌<◌}
use Rattle.qp_table.specs.Told.{EyePoolTold}
use Rattle.qp_shared_words.proofs.blocks.look_at_pool.Given as goal

abbrev pub ghosts-look : goal.ghosts-look
ghosts-look a = record { tells = λ v n u. EyePoolTold a.words.now.shared.key a._about.pool a._about.by a._about.margin v n u × (n < 9223372036854775808) }
