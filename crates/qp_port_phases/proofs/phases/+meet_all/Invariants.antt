use Rattle.std.proofs.Common.{length}
use Rattle.qp_port_phases.proofs.phases.+meet_all.Given as goal

abbrev pub decreases-meet_all : goal.decreases-meet_all
decreases-meet_all g l = length l.others.now
