use Rattle.qp_table.proofs.LawLemmas.{whole_lanes_are_lawful as law}
use Rattle.qp_table.proofs.laws.whole_lanes_are_lawful.Goals as goal

pub returns : goal.returns
returns c = law
