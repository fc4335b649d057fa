use Rattle.qp_table.proofs.WordLawLemmas.{references_differ as law}
use Rattle.qp_table.proofs.word_laws.references_differ.Goals as goal

pub returns : goal.returns
returns c = law
