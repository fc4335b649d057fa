use Rattle.qp_table.proofs.WordLawLemmas.{numbers_count_operations as law}
use Rattle.qp_table.proofs.word_laws.numbers_count_operations.Goals as goal

pub returns : goal.returns
returns c = law
