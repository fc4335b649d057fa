use Rattle.std.proofs.Common.{◌∙◌}
use Rattle.qp_check_lanes.proofs.FreeSetLemmas.{without-removed}
use Rattle.qp_check_lanes.proofs.pools.FreeBlocks.take_out.Goals as goal

pub returns-then-len-gt0-clause-free : goal.returns-then-len-gt0-clause-free
returns-then-len-gt0-clause-free c = c.remove.ensures.keys ∙ without-removed c.args.b c.args.self.now.free.keys c.len.ensures.ordered
