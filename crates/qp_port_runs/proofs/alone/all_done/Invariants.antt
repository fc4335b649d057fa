use Rattle.std.proofs.Common.{◌≡◌, ◌++◌, map, length}
use Rattle.std.specs.Vec.Iter.{into_iter_items, into_iter_len}
use Rattle.qp_port_runs.proofs.alone.all_done.Given as goal

abbrev pub invariant-loop-world : goal.invariant-loop-world
invariant-loop-world g l =
    (l.yielded ++ into_iter_items l.world-iterator ≡ l.fn.worlds.items)
    × (l.lanes.items ≡ map (λ w. w.lane) l.yielded)
    × (into_iter_len l.world-iterator ≡ length (into_iter_items l.world-iterator))
