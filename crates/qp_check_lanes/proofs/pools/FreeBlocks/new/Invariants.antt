use Rattle.std.proofs.Common.{◌≡◌}
use Rattle.qp_model.specs.Lists.{count_up}
use Rattle.qp_check_lanes.proofs.pools.FreeBlocks.new.Given as goal

abbrev pub invariant-loop-b : goal.invariant-loop-b
invariant-loop-b l = l.free.keys ≡ count_up 0 l.b
