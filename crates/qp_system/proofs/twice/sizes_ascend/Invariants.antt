use Rattle.std.proofs.Common.{◌≡◌, ◌+◌, None, drop}
use Rattle.qp_system.specs.Between.{sizes_fault}
use Rattle.qp_system.proofs.twice.sizes_ascend.Given as goal

abbrev pub invariant-loop-i : goal.invariant-loop-i
invariant-loop-i l = sizes_fault 1 None l.pools ≡ sizes_fault (l.i + 1) l.before (drop l.i l.pools)
