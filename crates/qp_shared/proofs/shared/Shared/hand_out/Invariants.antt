use Rattle.std.proofs.Common.{◌≡◌, ◌+◌, ◌++◌, map, length}
use Rattle.std.specs.Vec.{vec_capacity}
use Rattle.std.specs.Vec.Iter.{into_iter_items, into_iter_len}
use Rattle.qp_shared.specs.Lane.{lane_view}
use Rattle.qp_shared.specs.Starting.{AreGiven, HasLeft}
use Rattle.qp_shared.proofs.shared.Shared.hand_out.Given as goal

abbrev pub invariant-loop-log : goal.invariant-loop-log
invariant-loop-log l = (l.yielded ++ into_iter_items l.log-iterator ≡ into_iter_items l.initial.log-iterator)
    × (into_iter_len l.log-iterator ≡ length (into_iter_items l.log-iterator))
    × (vec_capacity l.lanes ≡ vec_capacity l.initial.lanes)
    × (length l.lanes.items ≡ length l.yielded)
    × HasLeft l.self l.port (length l.yielded + 1) l.root
    × AreGiven l.self l.count l.port (map lane_view l.lanes.items)
