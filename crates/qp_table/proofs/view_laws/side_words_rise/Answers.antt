use Rattle.qp_table.proofs.ViewLawLemmas.{side_words_rise as law}
use Rattle.qp_table.proofs.view_laws.side_words_rise.Goals as goal

pub returns : goal.returns
returns c = law
