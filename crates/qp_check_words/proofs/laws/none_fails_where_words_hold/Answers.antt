use Rattle.qp_check_words.proofs.LawLemmas.{none_fails_where_words_hold as law}
use Rattle.qp_check_words.proofs.laws.none_fails_where_words_hold.Goals as goal

pub returns : goal.returns
returns c = law
