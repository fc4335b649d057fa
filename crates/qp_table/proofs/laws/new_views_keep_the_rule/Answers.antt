use Rattle.qp_table.proofs.LawLemmas.{new_views_keep_the_rule as law}
use Rattle.qp_table.proofs.laws.new_views_keep_the_rule.Goals as goal

pub returns : goal.returns
returns c = law
