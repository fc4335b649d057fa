use Rattle.std.proofs.Common.{◌≡◌, ◌+◌, drop}
use Rattle.qp_table.specs.After.{fills_for}
use Rattle.qp_shared_loops.specs.Ends.{filling}
use Rattle.qp_shared_loops.proofs.gives.write_event.Given as goal

abbrev pub invariant-loop-at : goal.invariant-loop-at
invariant-loop-at l = record {
  same : (l.seat.table_id ≡ l.fn.seat.table_id) × (l.seat.id ≡ l.fn.seat.id);
  left : l.seat.me.0 ≡ filling (fills_for l.pool l.block (l.at + 1) (drop l.at l.pars)) l.fn.seat.me.0;
}
