use Rattle.std.proofs.Common.{◌≡◌, None, drop}
use Rattle.qp_model.specs.History.{lane_items}
use Rattle.qp_model.specs.End.{spents_follow}
use Rattle.qp_check_ends.proofs.lane_ends.spents_are_seen.Given as goal

abbrev pub invariant-loop-r : goal.invariant-loop-r
invariant-loop-r l = spents_follow l.seen (lane_items (drop l.r-index l.lane)) ≡ spents_follow None (lane_items l.lane)
