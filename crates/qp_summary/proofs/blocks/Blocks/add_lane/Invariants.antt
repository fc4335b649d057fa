use Rattle.std.proofs.Common.{ℕ, ◌++◌, List, take}
use Rattle.qp_model.specs.History.{lane_items}
use Rattle.qp_model.specs.Record.{Item}
use Rattle.qp_summary.specs.Counting.{AreBlocks}
use Rattle.qp_summary.proofs.blocks.Blocks.add_lane.Given as goal

abbrev pub invariant-loop-r : goal.invariant-loop-r
invariant-loop-r l = (size : ℕ) (items : List Item) → AreBlocks size l.fn.self items → AreBlocks size l.self (items ++ lane_items (take l.r-index l.lane))
