use Rattle.std.proofs.Common.{◌^◌, ◌<◌, length, take}
use Rattle.std.specs.List.{AllByRecursion}
use Rattle.qp_replay.proofs.order.is_small.Given as goal

abbrev pub invariant-loop-lane : goal.invariant-loop-lane
invariant-loop-lane l = AllByRecursion (λ r. length r < 2 ^ 32) (take l.lane-index l.lanes)
