use Rattle.qp_kernel.proofs.KernelLaws.{run_ends_quietly as law}
use Rattle.qp_kernel.proofs.laws.runs_end_quietly.Goals as goal

pub returns : goal.returns
returns c = law
