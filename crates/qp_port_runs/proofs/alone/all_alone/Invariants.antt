use Rattle.std.proofs.Common.{◌≡◌, ◌++◌, map, length}
use Rattle.std.specs.Vec.Iter.{into_iter_items, into_iter_len}
use Rattle.qp_port_runs.proofs.alone.all_alone.Given as goal

abbrev pub invariant-loop-lane : goal.invariant-loop-lane
invariant-loop-lane g l =
    (l.yielded ++ into_iter_items l.lane-iterator ≡ l.fn.lanes.items)
    × (map (λ w. w.lane) l.worlds.items ≡ l.yielded)
    × (into_iter_len l.lane-iterator ≡ length (into_iter_items l.lane-iterator))
