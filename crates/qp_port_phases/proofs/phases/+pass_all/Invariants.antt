use Rattle.std.proofs.Common.{length}
use Rattle.qp_port_phases.proofs.phases.+pass_all.Given as goal

abbrev pub decreases-pass_all : goal.decreases-pass_all
decreases-pass_all g l = length l.others.now
