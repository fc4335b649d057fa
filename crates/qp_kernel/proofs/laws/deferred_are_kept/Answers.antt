use Rattle.qp_kernel.proofs.DeferredLemmas.{deferred_are_kept as law}
use Rattle.qp_kernel.proofs.laws.deferred_are_kept.Goals as goal

pub returns : goal.returns
returns c = law
