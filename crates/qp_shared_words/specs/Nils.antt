-- Whether the look of a take tells of an empty queue.
use Rattle.std.specs.Prelude.{ℕ, ◌/◌, ◌%◌, Bool, true, not, Some, None}
use Rattle.std.specs.declared.option.Option.{Option}
use Rattle.qp_calls.specs.declared.answers.Counts as counts
use Rattle.qp_calls.specs.LaneView.{Counts}
use Rattle.qp_calls.specs.Clauses.{same_counts}

-- the word has other counts than the lane last told of the empty queue, if any
abbrev pub is_new : Option counts.Counts → ℕ → Bool
is_new (Some c) x = not (same_counts (Counts c.f c.l c.m) (x % 2097152) (x / 2097152 % 2097152) (x / 4398046511104))
is_new None x = true
