use Rattle.std.proofs.Common.{take}
use Rattle.qp_model.specs.History.{lane_items}
use Rattle.qp_summary.specs.Counting.{AreTurns}
use Rattle.qp_summary.proofs.turns.TurnCounts.of.Given as goal

abbrev pub invariant-loop-r : goal.invariant-loop-r
invariant-loop-r l = AreTurns l.turns (lane_items (take l.r-index l.lane))
