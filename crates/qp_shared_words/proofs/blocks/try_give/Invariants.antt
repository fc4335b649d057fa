use Rattle.std.specs.Prelude.{◌<◌}
use Rattle.qp_table.specs.Told.{GiveTold}
use Rattle.qp_shared_words.proofs.blocks.try_give.Given as goal

abbrev pub ghosts-exchange : goal.ghosts-exchange
ghosts-exchange g a = record { tells = λ v n u. GiveTold a.words.now.shared.key a._about.0.pool a._about.0.by a._about.0.margin a._about.0.block a._about.1.now.sig a._about.1.now.pars.items v a._about.0.old a.new n u × (n < 9223372036854775808) }
