use Rattle.qp_table.proofs.WordLawLemmas.{event_words_stand_apart as law}
use Rattle.qp_table.proofs.word_laws.event_words_stand_apart.Goals as goal

pub returns : goal.returns
returns c = law
