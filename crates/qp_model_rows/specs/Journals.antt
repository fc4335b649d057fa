-- Whole journals, each with what it shows.
use Rattle.std.specs.Prelude.{ℕ, List, [], ◌∷◌}
use Rattle.qp_model.specs.declared.record.Rec.{Rec}
use Rattle.qp_model.specs.declared.journals.Journal.{Journal}
use Rattle.qp_model.specs.Kernels.{sim}
use Rattle.qp_model.specs.Ends.{quiet}
use Rattle.qp_model_rows.specs.Lines.{begin, took, seen, run, none, exit, enter, say, done, new, inc, dec, back, post, full, lock, unlock, stim, look}

-- a journal of a kernel with the default budget
abbrev pub journal : ℕ → ℕ → List (List Rec) → Journal
journal kernel end lanes = record { kernel = kernel; budget = 100000; lanes = lanes; end = end }

-- the same with another budget
abbrev pub with_budget : ℕ → ℕ → ℕ → List (List Rec) → Journal
with_budget budget kernel end lanes = record { kernel = kernel; budget = budget; lanes = lanes; end = end }

-- a lamp is switched on: its one event is posted, taken and run to completion
abbrev pub switched_lanes : List (List Rec)
switched_lanes =
    (begin 1 ∷ enter 1 1 ∷ done 1 ∷ look 0 1 0 ∷ seen 0 1 1 0 0 ∷ took 1 1 0 1 0 4 0 ∷ run 1 1 1 ∷ exit 1 1 ∷ enter 1 2 ∷ done 1 ∷ look 0 2 0
    ∷ seen 0 1 1 0 1 ∷ [])
    ∷ (stim 0 1 1 ∷ post 0 1 1 0 0 0 4 0 ∷ [])
    ∷ []

abbrev pub switched : Journal
switched = journal sim quiet switched_lanes

-- the second look states a floor that doesn't stand there
abbrev pub wrong_floor_lanes : List (List Rec)
wrong_floor_lanes =
    (begin 1 ∷ enter 1 1 ∷ done 1 ∷ look 0 1 0 ∷ seen 0 1 1 0 0 ∷ took 1 1 0 1 0 4 0 ∷ run 1 1 1 ∷ exit 1 1 ∷ enter 1 2 ∷ done 1 ∷ look 0 2 1
    ∷ seen 0 1 1 0 1 ∷ [])
    ∷ (stim 0 1 1 ∷ post 0 1 1 0 0 0 4 0 ∷ [])
    ∷ []

abbrev pub wrong_floor : Journal
wrong_floor = journal sim quiet wrong_floor_lanes

-- the same, where the refused post doesn't drop its reference
abbrev pub not_dropped_lanes : List (List Rec)
not_dropped_lanes =
    (begin 1 ∷ enter 1 1 ∷ done 1 ∷ look 0 1 0 ∷ seen 0 1 1 0 0 ∷ took 1 1 0 1 0 4 0 ∷ run 1 1 1 ∷ new 1 1 0 0 0 5 (5 ∷ []) ∷ inc 1 1 0 0
    ∷ post 1 1 2 0 1 1 0 0 ∷ look 0 2 1 ∷ new 1 1 1 1 0 5 (6 ∷ []) ∷ inc 1 1 1 0 ∷ full 1 1 2 0 1 1 ∷ back 1 1 2 1 2 ∷ look 0 3 1 ∷ say 1 0
    ∷ look 0 4 1 ∷ done 1 ∷ look 0 5 0 ∷ seen 0 1 2 0 1 ∷ took 1 2 0 2 1 0 0 ∷ none 1 ∷ done 1 ∷ dec 1 1 0 1 0 ∷ back 1 1 3 0 2 ∷ look 0 6 0
    ∷ seen 0 1 2 0 2 ∷ [])
    ∷ (stim 0 1 1 ∷ post 0 1 1 0 0 0 4 0 ∷ [])
    ∷ []

abbrev pub not_dropped : Journal
not_dropped = journal sim quiet not_dropped_lanes

-- a step is preempted by higher objects; `locked` holds back those at or below its ceiling
abbrev pub preempted_lanes : List (List Rec)
preempted_lanes =
    (begin 1 ∷ enter 1 1 ∷ done 1 ∷ begin 3 ∷ enter 3 1 ∷ done 3 ∷ begin 4 ∷ enter 4 1 ∷ done 4 ∷ look 0 1 0 ∷ seen 0 4 0 0 0 ∷ seen 0 3 0 0 0
    ∷ seen 0 1 1 0 0 ∷ took 1 1 0 1 0 4 0 ∷ run 1 1 1 ∷ post 1 4 1 0 0 0 6 0 ∷ look 0 2 1 ∷ seen 0 4 1 0 0 ∷ took 4 1 0 1 0 6 0 ∷ none 4 ∷ done 4
    ∷ look 0 3 1 ∷ seen 0 4 1 0 1 ∷ seen 0 3 0 0 0 ∷ lock 1 3 ∷ post 1 3 1 0 0 0 6 0 ∷ look 0 4 3 ∷ seen 0 4 1 0 1 ∷ post 1 4 2 0 1 0 6 0
    ∷ look 0 5 3 ∷ seen 0 4 2 0 1 ∷ took 4 2 0 2 0 6 0 ∷ none 4 ∷ done 4 ∷ look 0 6 3 ∷ seen 0 4 2 0 2 ∷ say 1 1 ∷ look 0 7 3 ∷ seen 0 4 2 0 2
    ∷ unlock 1 0 ∷ look 0 8 1 ∷ seen 0 4 2 0 2 ∷ seen 0 3 1 0 0 ∷ took 3 1 0 1 0 6 0 ∷ none 3 ∷ done 3 ∷ look 0 9 1 ∷ seen 0 4 2 0 2 ∷ seen 0 3 1 0 1
    ∷ say 1 2 ∷ look 0 10 1 ∷ seen 0 4 2 0 2 ∷ seen 0 3 1 0 1 ∷ done 1 ∷ look 0 11 0 ∷ seen 0 4 2 0 2 ∷ seen 0 3 1 0 1 ∷ seen 0 1 1 0 1 ∷ [])
    ∷ (stim 0 1 1 ∷ post 0 1 1 0 0 0 4 0 ∷ [])
    ∷ []

abbrev pub preempted : Journal
preempted = journal sim quiet preempted_lanes
