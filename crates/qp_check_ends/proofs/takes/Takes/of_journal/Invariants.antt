use Rattle.std.proofs.Common.{◌≡◌, ℕ, ◌<◌, ◌-◌, ◌^◌, min, get_or, take}
use Rattle.qp_model.specs.History.{all_items}
use Rattle.qp_model.specs.End.{took_count}
use Rattle.qp_check_ends.proofs.takes.Takes.of_journal.Given as goal

abbrev pub invariant-loop-lane : goal.invariant-loop-lane
invariant-loop-lane l = (o : ℕ) → o < 256 → get_or l.takes.counts o 0 ≡ min (took_count (all_items (take l.lane-index l.lane-items)) o) (2 ^ 64 - 1)
