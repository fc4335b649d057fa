use Rattle.std.proofs.Common.{◌≡◌, ◌+◌, drop}
use Rattle.qp_check_lanes.specs.WordTotals.{count_in}
use Rattle.qp_check_kernel.specs.Turns.{first_acting, left_from}
use Rattle.qp_check_kernel.proofs.source_turn.Progress.first.Given as goal

abbrev pub invariant-loop-i : goal.invariant-loop-i
invariant-loop-i l =
    first_acting l.rests (left_from (l.k + l.i) (count_in l.self.begun) (drop l.i l.sources)) ≡ first_acting l.rests (left_from l.k (count_in l.self.begun) l.sources)
