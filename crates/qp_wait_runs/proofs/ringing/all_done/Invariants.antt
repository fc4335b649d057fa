use Rattle.std.proofs.Common.{◌≡◌, ◌++◌, map, length}
use Rattle.std.specs.Vec.Iter.{into_iter_items, into_iter_len}
use Rattle.qp_port_runs.specs.Handed.{lane_view}
use Rattle.qp_wait.specs.Handed.{bell_view}
use Rattle.qp_wait_runs.proofs.ringing.all_done.Given as goal

abbrev pub invariant-loop-one : goal.invariant-loop-one
invariant-loop-one l =
    (l.yielded ++ into_iter_items l.one-iterator ≡ l.fn.ringing.items)
    × (map lane_view l.lanes.items ≡ map bell_view l.yielded)
    × (into_iter_len l.one-iterator ≡ length (into_iter_items l.one-iterator))
