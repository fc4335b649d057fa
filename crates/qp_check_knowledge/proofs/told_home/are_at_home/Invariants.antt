use Rattle.std.proofs.Common.{◌≡◌, ◌+◌, ◌≤◌, length}
use Rattle.qp_model.specs.History.{lane_items}
use Rattle.qp_model.specs.HomeLane.{are_at_home}
use Rattle.qp_check_knowledge.proofs.told_home.are_at_home.Given as goal

abbrev pub invariant-loop-r : goal.invariant-loop-r
invariant-loop-r l = record {
  rest : are_at_home l.o l.budget l.cuts 0 (lane_items l.lane) ≡ are_at_home l.o l.budget l.cuts l.taken (lane_items l.left);
  few : l.taken + length l.left ≤ length l.lane;
}

abbrev pub decreases-loop-r : goal.decreases-loop-r
decreases-loop-r l = length l.left
