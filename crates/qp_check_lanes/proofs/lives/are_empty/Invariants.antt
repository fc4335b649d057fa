use Rattle.std.proofs.Common.{◌≡◌, drop}
use Rattle.qp_check_lanes.specs.BlockLives.{are_empty}
use Rattle.qp_check_lanes.proofs.lives.are_empty.Given as goal

abbrev pub invariant-loop-n : goal.invariant-loop-n
invariant-loop-n l = are_empty l.flags l.places ≡ are_empty l.flags (drop l.n-index l.places)
