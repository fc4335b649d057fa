use Rattle.std.proofs.Common.{◌≡◌}
use Rattle.qp_shared_loops.proofs.takes.empty_once_laid.Given as goal

abbrev pub invariant-loop : goal.invariant-loop
invariant-loop g l = record {
  can : (goal.iterator-loop g).can_next l.iterator';
  finite : (goal.iterator-loop g).is_finite l.iterator';
  same : (l.seat.table_id ≡ l.fn.seat.table_id) × (l.seat.id ≡ l.fn.seat.id);
  still : l.seat.me.0 ≡ l.fn.seat.me.0;
}
