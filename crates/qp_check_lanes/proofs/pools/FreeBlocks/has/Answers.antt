use Rattle.std.proofs.Common.{◌∙◌}
use Rattle.qp_check_lanes.proofs.FreeSetLemmas.{has-contained}
use Rattle.qp_check_lanes.proofs.pools.FreeBlocks.has.Goals as goal

pub returns : goal.returns
returns c = c.contains.ensures ∙ has-contained c.args.b c.args.self.now.free.keys
