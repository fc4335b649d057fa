use Rattle.std.proofs.Common.{◌≡◌, ◌≤◌, drop}
use Rattle.qp_model.specs.History.{lane_items}
use Rattle.qp_model.specs.KernelLane.{lane_on, lane_read}
use Rattle.qp_check_kernel.specs.LaneState.{as_reading, as_setting}
use Rattle.qp_check_kernel.proofs.kernel_lane.read.Given as goal

abbrev pub invariant-loop-r : goal.invariant-loop-r
invariant-loop-r l = record {
  same : lane_on (as_setting l.rules) (as_reading l.reading) (lane_items (drop l.r-index l.lane)) ≡ lane_read (as_setting l.rules) (lane_items l.lane);
  few : l.reading.idle ≤ l.r-index;
}
