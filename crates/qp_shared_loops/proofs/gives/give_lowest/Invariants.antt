use Rattle.std.proofs.Common.{◌≡◌, ◌+◌, ◌-◌, ◌<◌, ◌≤◌}
use Rattle.std.specs.Option.{unwrap_or}
use Rattle.qp_model.specs.declared.words.Word.TheVariants as word
use Rattle.qp_table.specs.Rule.{pool_at, mark_in}
use Rattle.qp_table.specs.Words.{value_seen}
use Rattle.qp_table.specs.Told.{free_of}
use Rattle.qp_shared_loops.proofs.Giving.{PoolSeen}
use Rattle.qp_shared_loops.proofs.gives.give_lowest.Given as goal

abbrev pub invariant-loop-found : goal.invariant-loop-found
invariant-loop-found g l = record {
  same : (l.seat.table_id ≡ l.fn.seat.table_id) × (l.seat.id ≡ l.fn.seat.id);
  seen : PoolSeen l.words.shared.key l.pool l.fn.seat.me.0 l.seat.me.0 l.found;
  least : l.least ≡ unwrap_or l.reserve 0;
  enough : l.least < free_of l.found;
  few : l.found < 9223372036854775808;
  up : l.fn.steps ≤ l.steps;
  tries : l.steps + mark_in (pool_at l.pool) (value_seen l.words.shared.key (word.Pool l.pool) l.fn.seat.me.0.seen) ≤ l.fn.steps + mark_in (pool_at l.pool) l.found;
}

abbrev pub decreases-loop-found : goal.decreases-loop-found
decreases-loop-found g l = 2147483648 - mark_in (pool_at l.pool) l.found
