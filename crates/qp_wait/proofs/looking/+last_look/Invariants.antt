use Rattle.std.proofs.Common.{length}
use Rattle.qp_wait.proofs.looking.+last_look.Given as goal

abbrev pub decreases-last_look : goal.decreases-last_look
decreases-last_look l = length l.records.now
