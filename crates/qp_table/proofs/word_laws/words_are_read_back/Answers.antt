use Rattle.qp_table.proofs.WordLawLemmas.{words_are_read_back as law}
use Rattle.qp_table.proofs.word_laws.words_are_read_back.Goals as goal

pub returns : goal.returns
returns c = law
