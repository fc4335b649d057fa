use Rattle.qp_port_law.proofs.Looks.{queues_are_empty as law}
use Rattle.qp_port_law.proofs.quiet_laws.queues_are_empty.Goals as goal

pub returns : goal.returns
returns c = law
