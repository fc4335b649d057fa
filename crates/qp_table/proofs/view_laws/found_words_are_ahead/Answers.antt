use Rattle.qp_table.proofs.ViewLawLemmas.{found_words_are_ahead as law}
use Rattle.qp_table.proofs.view_laws.found_words_are_ahead.Goals as goal

pub returns : goal.returns
returns c = law
