use Rattle.qp_port_law.proofs.Resting.{quiet_runs_rest as law}
use Rattle.qp_port_law.proofs.quiet_laws.quiet_runs_rest.Goals as goal

pub returns : goal.returns
returns c = law
