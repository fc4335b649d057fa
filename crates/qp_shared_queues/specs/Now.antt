-- What a look answers stood in the queue's word at a step of the call.
use Rattle.std.specs.Prelude.{◌≡◌, ℕ, ◌/◌, ◌%◌, [], ◌∷◌, ◌++◌}
use Rattle.qp_calls.specs.declared.answers.Counts as counts
use Rattle.qp_calls.specs.declared.answers.Take.{Take}
use Rattle.qp_calls.specs.declared.answers.Take.TheVariants as take
use Rattle.qp_table.specs.Rule.{queue_at}
use Rattle.qp_table.specs.declared.view.View.{View}

-- the counts that a word shows
abbrev pub counts_in_word : ℕ → counts.Counts
counts_in_word n = record { f = n % 2097152; l = n / 2097152 % 2097152; m = n / 4398046511104 }

-- the lane has seen the queue's word once more, and the counts are what it showed
abbrev pub ReadsNow : ℕ → View → View → counts.Counts → Type 0
ReadsNow p v u c = (n : ℕ) × (u.seen ≡ v.seen ++ record { word = queue_at p; value = n } ∷ []) × (c ≡ counts_in_word n)

-- a take that finds nothing
abbrev pub EmptyNow : ℕ → View → View → Take → Type 0
EmptyNow p v u (take.Taken e) = Unit {0}
EmptyNow p v u (take.Empty f l m) = ReadsNow p v u (record { f = f; l = l; m = m })
