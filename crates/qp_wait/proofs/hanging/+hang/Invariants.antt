use Rattle.std.proofs.Common.{length}
use Rattle.qp_wait.proofs.hanging.+hang.Given as goal

abbrev pub decreases-hang : goal.decreases-hang
decreases-hang l = length l.objects.now
