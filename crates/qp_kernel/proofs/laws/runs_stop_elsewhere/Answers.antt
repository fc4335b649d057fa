use Rattle.qp_kernel.proofs.KernelLaws.{run_stops_elsewhere as law}
use Rattle.qp_kernel.proofs.laws.runs_stop_elsewhere.Goals as goal

pub returns : goal.returns
returns c = law
