use Rattle.std.proofs.Common.{◌≡◌, ◌+◌, ◌-◌, ◌/◌, ◌≤◌}
use Rattle.qp_side.specs.Rule.{timer_at}
use Rattle.qp_side.specs.Told.{counter_in, last_seen}
use Rattle.qp_side.proofs.Following.{SideSeen}
use Rattle.qp_side.proofs.tries.try_arm.Given as goal

abbrev pub invariant-loop-found : goal.invariant-loop-found
invariant-loop-found g l = record {
  same : (l.seat.table_id ≡ l.fn.seat.table_id) × (l.seat.id ≡ l.fn.seat.id) × (l.seat.me.1 ≡ l.fn.seat.me.1);
  seen : SideSeen l.t l.fn.seat.me.0 l.seat.me.0 l.found;
  counter : counter_in l.found ≡ 0;
  up : l.fn.steps ≤ l.steps;
  tries : l.steps + last_seen (timer_at l.t) l.fn.seat.me.0 / 4294967296 ≤ l.fn.steps + l.found / 4294967296;
}

abbrev pub decreases-loop-found : goal.decreases-loop-found
decreases-loop-found g l = 67108864 - l.found / 4294967296
