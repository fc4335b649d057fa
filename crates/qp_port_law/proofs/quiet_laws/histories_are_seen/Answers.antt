use Rattle.qp_port_law.proofs.Histories.{histories_are_seen as law}
use Rattle.qp_port_law.proofs.quiet_laws.histories_are_seen.Goals as goal

pub returns : goal.returns
returns c = law
