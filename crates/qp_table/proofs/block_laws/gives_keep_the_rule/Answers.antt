use Rattle.qp_table.proofs.BlockLawLemmas.{gives_keep_the_rule as law}
use Rattle.qp_table.proofs.block_laws.gives_keep_the_rule.Goals as goal

pub returns : goal.returns
returns c = law
