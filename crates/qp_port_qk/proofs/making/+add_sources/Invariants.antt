use Rattle.std.proofs.Common.{length}
use Rattle.qp_port_qk.proofs.making.+add_sources.Given as goal

abbrev pub decreases-add_sources : goal.decreases-add_sources
decreases-add_sources g l = length l.sources.now
