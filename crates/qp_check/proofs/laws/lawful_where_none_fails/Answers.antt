use Rattle.qp_check.proofs.JudgedLemmas.{lawful_where_none_fails as law}
use Rattle.qp_check.proofs.laws.lawful_where_none_fails.Goals as goal

pub returns : goal.returns
returns c = law
