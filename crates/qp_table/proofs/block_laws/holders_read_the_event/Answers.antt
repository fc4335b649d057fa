use Rattle.qp_table.proofs.BlockLawLemmas.{holders_read_the_event as law}
use Rattle.qp_table.proofs.block_laws.holders_read_the_event.Goals as goal

pub returns : goal.returns
returns c = law
