use Rattle.std.proofs.Common.{◌≡◌, drop}
use Rattle.qp_model.specs.History.{lane_items}
use Rattle.qp_model.specs.End.{spills_state}
use Rattle.qp_check_ends.proofs.lane_ends.spills_stand.Given as goal

abbrev pub invariant-loop-n : goal.invariant-loop-n
invariant-loop-n l = spills_state l.n (lane_items (drop l.n l.lane)) ≡ spills_state 0 (lane_items l.lane)
