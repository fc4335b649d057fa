use Rattle.std.proofs.Common.{◌≡◌, [], drop}
use Rattle.qp_model.specs.History.{lane_items}
use Rattle.qp_check_lanes.specs.Deferral.{kept_on}
use Rattle.qp_check_lanes.proofs.deferral.kept.Given as goal

abbrev pub invariant-loop-r : goal.invariant-loop-r
invariant-loop-r l = kept_on l.room l.o l.kept (lane_items (drop l.r-index l.lane)) ≡ kept_on l.room l.o [] (lane_items l.lane)
