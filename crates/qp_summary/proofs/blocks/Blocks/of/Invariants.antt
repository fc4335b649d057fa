use Rattle.std.proofs.Common.{take}
use Rattle.qp_model.specs.History.{all_items}
use Rattle.qp_summary.specs.Counting.{AreBlocks}
use Rattle.qp_summary.proofs.blocks.Blocks.of.Given as goal

abbrev pub invariant-loop-lane : goal.invariant-loop-lane
invariant-loop-lane l = AreBlocks l.size l.blocks (all_items (take l.lane-index l.lanes))
