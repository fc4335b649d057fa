-- The outcome by the last records of the lanes.
use Rattle.std.specs.Prelude.{ℕ, ◌-◌, Bool, false, List, Option, Some, None, length, position, slice_get}
use Rattle.std.specs.Option.{option_map_or}
use Rattle.qp_model.specs.declared.journals.Journal.{Journal}
use Rattle.qp_model.specs.declared.record.Rec.{Rec}
use Rattle.qp_model.specs.Home.{lane_at}
use Rattle.qp_model.specs.Record.{body_of}
use Rattle.qp_kernel_end.specs.declared.journal.Outcome.{Outcome}
use Rattle.qp_kernel_end.specs.declared.journal.Outcome.TheVariants.{Asserted}
use Rattle.qp_kernel_end.specs.Outcome.{asserts, code_of, runs_out, spent_at}

abbrev pub last_rec : List Rec → Option Rec
last_rec lane = slice_get lane (length lane - 1)

-- the test holds of the lane's last record
abbrev pub last_rec_is : (Rec → Bool) → List Rec → Bool
last_rec_is test lane = option_map_or test (last_rec lane) false

-- the code of the lane's last record
unfoldable pub last_rec_code : List Rec → ℕ
unfolding body_of
last_rec_code lane = option_map_or (λ r. code_of (body_of r)) (last_rec lane) 0

-- the lowest lane that ends in an assertion, with its code; without one the lowest that ends in a `spent` or a `spill`
abbrev pub last_asserted_at : Journal → Option ℕ → Outcome
last_asserted_at j (Some n) = Asserted (last_rec_code (lane_at j n)) n
last_asserted_at j None = spent_at (position (last_rec_is runs_out) j.lanes)

unfoldable pub last_outcome : Journal → Outcome
unfolding last_rec_code asserts runs_out
last_outcome j = last_asserted_at j (position (last_rec_is asserts) j.lanes)
