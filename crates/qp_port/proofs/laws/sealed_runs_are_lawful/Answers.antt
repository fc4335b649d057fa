use Rattle.qp_port.proofs.Sealing.{sealed}
use Rattle.qp_port.proofs.laws.sealed_runs_are_lawful.Goals as goal

pub returns : goal.returns
returns c = sealed
