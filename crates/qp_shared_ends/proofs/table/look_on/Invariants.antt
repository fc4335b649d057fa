use Rattle.qp_table.specs.After.{onlooker}
use Rattle.qp_shared_ends.proofs.table.look_on.Given as goal

abbrev pub ghosts-part : goal.ghosts-part
ghosts-part a = record { left = λ v. v; right = onlooker }
