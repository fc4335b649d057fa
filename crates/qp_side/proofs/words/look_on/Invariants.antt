use Rattle.qp_side.specs.Told.{side_onlooker}
use Rattle.qp_side.proofs.words.look_on.Given as goal

abbrev pub ghosts-part : goal.ghosts-part
ghosts-part a = record { left = λ v. v; right = side_onlooker }
