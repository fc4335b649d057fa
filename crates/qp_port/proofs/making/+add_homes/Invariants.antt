use Rattle.std.proofs.Common.{length}
use Rattle.qp_port.proofs.making.+add_homes.Given as goal

abbrev pub decreases-add_homes : goal.decreases-add_homes
decreases-add_homes g l = length l.objects.now
