use Rattle.std.proofs.Common.{length}
use Rattle.qp_port_phases.proofs.staying.+wish_for_entries.Given as goal

abbrev pub decreases-wish_for_entries : goal.decreases-wish_for_entries
decreases-wish_for_entries g l = length l.objects.now
