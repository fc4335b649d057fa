use Rattle.std.proofs.Common.{◌≡◌, ◌++◌, map, length}
use Rattle.std.specs.Vec.{vec_capacity}
use Rattle.std.specs.Vec.Iter.{into_iter_items, into_iter_len}
use Rattle.qp_plain.specs.Books.{log_recs}
use Rattle.qp_plain.proofs.ending.shelve.Given as goal

abbrev pub invariant-loop-log : goal.invariant-loop-log
invariant-loop-log l = (l.yielded ++ into_iter_items l.log-iterator ≡ into_iter_items l.initial.log-iterator)
    × (l.lanes.items ≡ l.initial.lanes.items ++ map log_recs l.yielded)
    × (vec_capacity l.lanes ≡ vec_capacity l.initial.lanes)
    × (into_iter_len l.log-iterator ≡ length (into_iter_items l.log-iterator))
