use Rattle.std.proofs.Common.{◌∙◌}
use Rattle.qp_check_lanes.proofs.FreeSetLemmas.{with-inserted}
use Rattle.qp_check_lanes.proofs.pools.FreeBlocks.put_in.Goals as goal

pub returns-clause-free : goal.returns-clause-free
returns-clause-free c = c.in_ok-insert.ensures.keys ∙ with-inserted c.args.b c.args.self.now.free.keys
