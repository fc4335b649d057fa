use Rattle.qp_table.specs.After.{empty_view}
use Rattle.qp_shared_ends.proofs.table.move_all.Given as goal

abbrev pub ghosts-part : goal.ghosts-part
ghosts-part a = record { left = λ v. empty_view; right = λ v. v }
