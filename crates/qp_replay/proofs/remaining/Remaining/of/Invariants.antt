use Rattle.std.proofs.Common.{◌≡◌, ℕ, take, replicate}
use Rattle.qp_model.specs.declared.words.Word.{Word}
use Rattle.qp_model.specs.Places.{item_at, touch_at}
use Rattle.qp_check_lanes.specs.Keys.{key_of}
use Rattle.qp_replay.specs.Marks.{has_mark}
use Rattle.qp_replay.specs.Remaining.{draws_mark, record_place, shows_mark}
use Rattle.qp_replay.proofs.remaining.Remaining.of.Given as goal

abbrev pub invariant-loop-n : goal.invariant-loop-n
invariant-loop-n l = record {
  fronts : l.fronts.items ≡ replicate l.n 0;
  draws : (w : Word) (m i k : ℕ) → has_mark l.draws (key_of w) (m, i, k) ≡ draws_mark w m (touch_at (item_at (take l.n l.lanes) (record_place i k)));
  shows : (w : Word) (m i k : ℕ) → has_mark l.shows (key_of w) (m, i, k) ≡ shows_mark w m (touch_at (item_at (take l.n l.lanes) (record_place i k)));
}
