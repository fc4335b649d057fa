use Rattle.std.proofs.Common.{◌≡◌, ℕ, ◌==◌, ◌&&◌, ◌||◌, take}
use Rattle.qp_model.specs.declared.words.Word.{Word}
use Rattle.qp_model.specs.Places.{touch_at}
use Rattle.qp_check_lanes.specs.Keys.{key_of}
use Rattle.qp_replay.specs.Marks.{has_mark}
use Rattle.qp_replay.specs.Remaining.{draws_mark, record_in, shows_mark}
use Rattle.qp_replay.proofs.remaining.put_lane.Given as goal

abbrev pub invariant-loop-k : goal.invariant-loop-k
invariant-loop-k l = record {
  draws : (w : Word) (m i k : ℕ) → has_mark l.draws (key_of w) (m, i, k) ≡ (has_mark l.initial.draws (key_of w) (m, i, k) || ((l.n == i) && draws_mark w m (touch_at (record_in (take l.k l.lane) k))));
  shows : (w : Word) (m i k : ℕ) → has_mark l.shows (key_of w) (m, i, k) ≡ (has_mark l.initial.shows (key_of w) (m, i, k) || ((l.n == i) && shows_mark w m (touch_at (record_in (take l.k l.lane) k))));
}
