-- What a lane remembers of its used blocks.
use Rattle.std.specs.Prelude.{◌≡◌, ℕ, ◌+◌, ◌*◌, ◌<◌, List, slice_index}
use Rattle.qp_table.specs.Counting.{many}
use Rattle.qp_table.specs.Rule.{is_spot_at}
use Rattle.qp_table.specs.declared.view.Spot.{Spot}

-- after how many operations the life of each used block ended
abbrev pub HasEnds : List ℕ → List Spot → Type 0
HasEnds at used = (p b n : ℕ) → p < 16 → b < 32 → 0 < many (is_spot_at p b n) used → slice_index at (32 * p + b) ≡ n
