use Rattle.qp_table.proofs.LawLemmas.{holders_learn_the_event as law}
use Rattle.qp_table.proofs.laws.holders_learn_the_event.Goals as goal

pub returns : goal.returns
returns c = law
