use Rattle.std.proofs.Common.{◌≡◌, ℕ, ◌<◌, ◌-◌, ◌+◌, ◌^◌, min, get_or, take}
use Rattle.qp_model.specs.History.{lane_items}
use Rattle.qp_model.specs.End.{took_count}
use Rattle.qp_check_ends.proofs.takes.Takes.add_lane.Given as goal

abbrev pub invariant-loop-r : goal.invariant-loop-r
invariant-loop-r l =
    (o : ℕ) → o < 256 → get_or l.self.counts o 0 ≡ min (get_or l.initial.self.counts o 0 + took_count (lane_items (take l.r-index l.lane)) o) (2 ^ 64 - 1)
