use Rattle.std.proofs.Common.{◌≡◌, take}
use Rattle.qp_check_lanes.specs.Groups.{grouped}
use Rattle.qp_check_lanes.proofs.groups.grouped.Given as goal

abbrev pub invariant-loop-r : goal.invariant-loop-r
invariant-loop-r g l = l.groups ≡ grouped (g.K.Key.key_of l.key) l.size (take l.r-index l.records)
