use Rattle.qp_port_qk.proofs.Sealing.{sealed}
use Rattle.qp_port_qk.proofs.laws.sealed_qk_runs_are_lawful.Goals as goal

pub returns : goal.returns
returns c = sealed
