use Rattle.qp_table.proofs.WordLawLemmas.{words_stand_apart as law}
use Rattle.qp_table.proofs.word_laws.words_stand_apart.Goals as goal

pub returns : goal.returns
returns c = law
