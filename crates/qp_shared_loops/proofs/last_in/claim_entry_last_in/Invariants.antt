use Rattle.std.proofs.Common.{◌≡◌, ◌+◌, ◌-◌, ◌<◌, ◌≤◌}
use Rattle.qp_model.specs.declared.words.Word.TheVariants as word
use Rattle.qp_table.specs.Rule.{queue_at, mark_in}
use Rattle.qp_table.specs.Words.{value_seen}
use Rattle.qp_table.specs.Told.{free_in}
use Rattle.qp_shared_loops.proofs.Following.{Seen}
use Rattle.qp_shared_loops.proofs.last_in.claim_entry_last_in.Given as goal

abbrev pub invariant-loop-found : goal.invariant-loop-found
invariant-loop-found g l = record {
  same : (l.seat.table_id ≡ l.fn.seat.table_id) × (l.seat.id ≡ l.fn.seat.id);
  seen : Seen l.words.shared.key l.object l.fn.seat.me.0 l.seat.me.0 l.found;
  enough : 0 < free_in l.ring l.found;
  up : l.fn.steps ≤ l.steps;
  tries : l.steps + mark_in (queue_at l.object) (value_seen l.words.shared.key (word.Queue l.object) l.fn.seat.me.0.seen) ≤ l.fn.steps + mark_in (queue_at l.object) l.found;
}

abbrev pub decreases-loop-found : goal.decreases-loop-found
decreases-loop-found g l = 8000000 - mark_in (queue_at l.object) l.found
