use Rattle.std.proofs.Common.{◌≡◌, ◌++◌, map, length}
use Rattle.std.specs.Vec.Iter.{into_iter_items, into_iter_len}
use Rattle.qp_port_qk.proofs.run.lanes_of.Given as goal

abbrev pub invariant-loop-worker : goal.invariant-loop-worker
invariant-loop-worker g l =
    (l.yielded ++ into_iter_items l.worker-iterator ≡ l.fn.workers.items)
    × (l.lanes.items ≡ map (λ w. w.lane) l.yielded)
    × (into_iter_len l.worker-iterator ≡ length (into_iter_items l.worker-iterator))
