use Rattle.std.proofs.Common.{◌≡◌, take}
use Rattle.qp_model.specs.Lives.{edges}
use Rattle.qp_check_lanes.proofs.lives.edges.Given as goal

abbrev pub invariant-loop-r : goal.invariant-loop-r
invariant-loop-r l = l.edges.items ≡ edges l.b (take l.r-index l.own)
