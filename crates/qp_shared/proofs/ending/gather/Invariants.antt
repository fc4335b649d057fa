use Rattle.std.proofs.Common.{◌≡◌, ◌++◌, map, length}
use Rattle.std.specs.Vec.{vec_capacity}
use Rattle.std.specs.Vec.Iter.{into_iter_items, into_iter_len}
use Rattle.qp_shared_ends.specs.Joining.{all_both, all_joined, recs_in, side_of, table_of}
use Rattle.qp_shared.specs.Ending.{lane_states}
use Rattle.qp_shared.proofs.ending.gather.Given as goal

abbrev pub invariant-loop-lane : goal.invariant-loop-lane
invariant-loop-lane l = (l.yielded ++ into_iter_items l.lane-iterator ≡ into_iter_items l.initial.lane-iterator)
    × (into_iter_len l.lane-iterator ≡ length (into_iter_items l.lane-iterator))
    × (l.records.items ≡ l.initial.records.items ++ map recs_in (lane_states l.yielded))
    × (vec_capacity l.records ≡ vec_capacity l.initial.records)
    × (l.seat.table_id ≡ l.initial.seat.table_id)
    × (l.beside.table_id ≡ l.initial.beside.table_id)
    × (l.seat.me.0 ≡ all_joined l.initial.seat.me.0 (map table_of (lane_states l.yielded)))
    × (l.beside.me.0 ≡ all_both l.initial.beside.me.0 (map side_of (lane_states l.yielded)))
