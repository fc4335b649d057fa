use Rattle.std.specs.Prelude.{◌≡◌}
use Rattle.qp_shared_words.proofs.queues.look_at_cell.Given as goal

abbrev pub ghosts-look : goal.ghosts-look
ghosts-look a = record { tells = λ v n u. u ≡ v }
