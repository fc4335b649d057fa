-- How many operations each word has had, as counted.
use Rattle.std.specs.Prelude.{ℕ, suc, ◌+◌, ◌==◌, Bool, true, if◌then◌else◌}
use Rattle.std.specs.Option.{unwrap_or, option_map_or}
use Rattle.std.specs.BTreeMap.{get}
use Rattle.std.specs.Ordering.{nat_cmp}
use Rattle.qp_model.specs.declared.words.Word.{Word}
use Rattle.qp_model.specs.declared.words.Word.TheVariants as word
use Rattle.qp_model.specs.History.{Touch, Draws, Shows, Neither, drawn_on}
use Rattle.qp_check_lanes.specs.declared.word_totals.CountsByNumber.{CountsByNumber}
use Rattle.qp_check_lanes.specs.declared.word_totals.Totals.{Totals}

abbrev pub count_in : CountsByNumber → ℕ → ℕ
count_in c k = unwrap_or (get nat_cmp c.counts k) 0

abbrev pub count_at : Totals → Word → ℕ
count_at t (word.Pool p) = count_in t.pools p
count_at t (word.Block p b) = option_map_or (λ c. count_in c b) (get nat_cmp t.blocks p) 0
count_at t (word.Queue a) = count_in t.queues a
count_at t (word.Signal s) = count_in t.signals s
count_at t (word.Timer n) = count_in t.timers n

-- a number drawn or shown is that of the word's operations, which are so many
abbrev pub is_next_at : (Word → ℕ) → Touch → Bool
is_next_at totals (Draws w mark) = mark == suc (totals w)
is_next_at totals (Shows w mark) = mark == totals w
is_next_at totals Neither = true

-- the operations of a word after a record
abbrev pub drawn_at : (Word → ℕ) → Word → Touch → ℕ
drawn_at totals w t = totals w + (if drawn_on w t then 1 else 0)
