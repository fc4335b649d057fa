use Rattle.qp_side.proofs.Places.{apart-words as law}
use Rattle.qp_side.proofs.laws.side_words_stand_apart.Goals as goal

pub returns : goal.returns
returns c = law
