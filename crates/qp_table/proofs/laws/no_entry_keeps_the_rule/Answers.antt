use Rattle.qp_table.proofs.LawLemmas.{no_entry_keeps_the_rule as law}
use Rattle.qp_table.proofs.laws.no_entry_keeps_the_rule.Goals as goal

pub returns : goal.returns
returns c = law
