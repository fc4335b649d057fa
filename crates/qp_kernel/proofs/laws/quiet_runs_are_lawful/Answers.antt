use Rattle.qp_kernel.proofs.QuietRuns.{quiet_runs_are_lawful as law}
use Rattle.qp_kernel.proofs.laws.quiet_runs_are_lawful.Goals as goal

pub returns : goal.returns
returns c = law
