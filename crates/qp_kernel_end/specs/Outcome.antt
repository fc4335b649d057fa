-- How a run came to its end, by the records of its journal.
use Rattle.std.specs.Prelude.{ℕ, Bool, ◌||◌, List, Option, Some, None}
use Rattle.std.specs.Option.{option_map_or}
use Rattle.std.specs.List.{find, list_any, position}
use Rattle.qp_model.specs.declared.bodies.Body.{Body}
use Rattle.qp_model.specs.declared.bodies.Body.TheVariants.{NoEntry, NoBlock, Armed, BadTicks, NoLifo}
use Rattle.qp_model.specs.declared.journals.Journal.{Journal}
use Rattle.qp_model.specs.declared.record.Rec.{Rec}
use Rattle.qp_model.specs.Ends.{is_assert, is_spent, is_spill}
use Rattle.qp_model.specs.Home.{lane_at}
use Rattle.qp_model.specs.Record.{body_of}
use Rattle.qp_kernel_end.specs.declared.journal.Outcome.{Outcome}
use Rattle.qp_kernel_end.specs.declared.journal.Outcome.TheVariants.{Quiet, Asserted, Spent}

-- the code of an assertion
abbrev pub code_of : Body → ℕ
code_of (NoEntry a f l m) = 1
code_of (NoBlock p n free) = 2
code_of (Armed t n c) = 3
code_of (BadTicks t ticks interval) = 4
code_of (NoLifo a f l m) = 5
code_of _ = 0

unfoldable pub asserts : Rec → Bool
unfolding body_of
asserts r = is_assert (body_of r)

unfoldable pub runs_out : Rec → Bool
unfolding body_of
runs_out r = is_spent (body_of r) || is_spill (body_of r)

-- an assertion stands in the lane
abbrev pub is_asserted : List Rec → Bool
is_asserted lane = list_any asserts lane

-- the code of its first one
unfoldable pub code_in : List Rec → ℕ
unfolding asserts body_of
code_in lane = option_map_or (λ r. code_of (body_of r)) (find asserts lane) 0

-- a `spent` or a `spill` stands in the lane
abbrev pub is_spent_lane : List Rec → Bool
is_spent_lane lane = list_any runs_out lane

-- without an assertion: the lowest lane in which a `spent` or a `spill` stands, if there is one
abbrev pub spent_at : Option ℕ → Outcome
spent_at (Some n) = Spent n
spent_at None = Quiet

-- the lowest lane in which an assertion stands, with its code; without one as above
abbrev pub asserted_at : Journal → Option ℕ → Outcome
asserted_at j (Some n) = Asserted (code_in (lane_at j n)) n
asserted_at j None = spent_at (position is_spent_lane j.lanes)

unfoldable pub outcome_of : Journal → Outcome
unfolding code_in runs_out
outcome_of j = asserted_at j (position is_asserted j.lanes)

-- the end that a journal of this outcome states
abbrev pub end_by : Outcome → ℕ
end_by Quiet = 0
end_by (Asserted code lane) = 3
end_by (Spent lane) = 4
