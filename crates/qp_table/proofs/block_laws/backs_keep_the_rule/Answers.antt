use Rattle.qp_table.proofs.BlockLawLemmas.{backs_keep_the_rule as law}
use Rattle.qp_table.proofs.block_laws.backs_keep_the_rule.Goals as goal

pub returns : goal.returns
returns c = law
