use Rattle.qp_table.proofs.StepLawLemmas.{seen_counts_tell as law}
use Rattle.qp_table.proofs.step_laws.seen_counts_tell.Goals as goal

pub returns : goal.returns
returns c = law
