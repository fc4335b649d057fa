use Rattle.std.specs.Prelude.{ℕ, ◌<◌}
use Rattle.qp_table.specs.Counting.{many}
use Rattle.qp_table.specs.Rule.{is_spot_at}
use Rattle.qp_table.specs.Told.{FromTold}
use Rattle.qp_shared_words.proofs.blocks.read_beginning.Given as goal

abbrev pub ghosts-look : goal.ghosts-look
ghosts-look a = record { tells = λ v n u. (m : ℕ) → 0 < many (is_spot_at a._about.pool a._about.block m) v.fresh → FromTold a.words.now.shared.key a._about.pool a._about.block m v n u }
