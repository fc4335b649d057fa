use Rattle.std.proofs.Common.{length}
use Rattle.qp_port_phases.proofs.phases.+all_meet.Given as goal

abbrev pub decreases-all_meet : goal.decreases-all_meet
decreases-all_meet g l = length l.others.now
