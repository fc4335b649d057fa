use Rattle.std.proofs.Common.{◌≡◌, length}
use Rattle.qp_check_kernel.specs.LaneState.{above_among}
use Rattle.qp_check_kernel.proofs.lane_state.last_above.Given as goal

abbrev pub invariant-loop-d : goal.invariant-loop-d
invariant-loop-d l = above_among l.left l.floor ≡ above_among l.objects l.floor

abbrev pub decreases-loop-d : goal.decreases-loop-d
decreases-loop-d l = length l.left
