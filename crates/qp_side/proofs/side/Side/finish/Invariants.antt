use Rattle.std.proofs.Common.{◌≡◌, ◌+◌, All, map, sum_by, vec_len}
use Rattle.qp_side.specs.Seat.{rights}
use Rattle.qp_side.specs.Ending.{joined_last}
use Rattle.qp_side.proofs.side.Side.finish.Given as goal

abbrev pub invariant-loop-next : goal.invariant-loop-next
invariant-loop-next l = record {
  own : l.whole.table_id ≡ l.self.words.shared.table_id;
  others : All (λ s. s.seat.table_id ≡ l.self.words.shared.table_id) l.seats.items;
  joined : joined_last l.whole.me.0 (map (λ s. s.seat.me.0) l.seats.items) ≡ joined_last l.initial.whole.me.0 (map (λ s. s.seat.me.0) l.initial.seats.items);
  all : rights l.whole.me.0 + sum_by (λ s. rights s.seat.me.0) l.seats.items ≡ 49;
}

abbrev pub decreases-loop-next : goal.decreases-loop-next
decreases-loop-next l = vec_len l.seats
