use Rattle.qp_table.proofs.LawLemmas.{hand_overs_keep_the_rule as law}
use Rattle.qp_table.proofs.laws.hand_overs_keep_the_rule.Goals as goal

pub returns : goal.returns
returns c = law
