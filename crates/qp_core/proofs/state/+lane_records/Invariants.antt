use Rattle.std.proofs.Common.{length}
use Rattle.qp_core.proofs.state.+lane_records.Given as goal

abbrev pub decreases-lane_records : goal.decreases-lane_records
decreases-lane_records l = length l.logs.now
