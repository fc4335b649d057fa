use Rattle.std.proofs.Common.{length}
use Rattle.qp_port_phases.proofs.looking.+are_empty.Given as goal

abbrev pub decreases-are_empty : goal.decreases-are_empty
decreases-are_empty g l = length l.objects.now
