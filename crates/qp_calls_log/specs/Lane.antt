-- What a lane keeps beside its records.
use Rattle.std.specs.Prelude.{ℕ, Bool, true, false, not, ◌&&◌, List, [], ◌∷◌, Some, None}
use Rattle.std.specs.declared.option.Option.{Option}
use Rattle.qp_model.specs.declared.bodies.Body.{Body}
use Rattle.qp_model.specs.Record.{Item}
use Rattle.qp_model.specs.Ends.{is_nil, is_spill}
use Rattle.qp_calls.specs.declared.answers.Counts as counts
use Rattle.qp_calls.specs.LaneView.{Shown, Counts, NotShown}
use Rattle.qp_calls.specs.Clauses.{nil_by}

-- the place kept for one `spill`
abbrev pub spill_place : Bool → ℕ
spill_place true = 0
spill_place false = 1

-- neither a `nil` nor a `spill`
abbrev pub is_plain : Body → Bool
is_plain b = not (is_nil b) && not (is_spill b)

-- the counts in the place of a queue
abbrev pub nil_of : Option counts.Counts → Shown
nil_of (Some c) = Counts c.f c.l c.m
nil_of None = NotShown

-- the counts that the last `nil` of the queue of `me` shows
unfoldable pub last_nil_in : ℕ → Shown → List Item → Shown
last_nil_in me x [] = x
last_nil_in me x (i ∷ is) = last_nil_in me (nil_by me x i.of i.body) is
