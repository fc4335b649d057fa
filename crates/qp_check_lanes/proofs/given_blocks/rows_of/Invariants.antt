use Rattle.std.proofs.Common.{◌≡◌, ℕ, take}
use Rattle.qp_check_lanes.specs.GivenBlocks.{block_key}
use Rattle.qp_check_lanes.specs.Groups.{of_key}
use Rattle.qp_check_lanes.specs.Rows.{records_of_key}
use Rattle.qp_check_lanes.proofs.given_blocks.rows_of.Given as goal

abbrev pub invariant-loop-r : goal.invariant-loop-r
invariant-loop-r l = (b : ℕ) → records_of_key l.rows (b, 0, 0) ≡ of_key block_key b (take l.r-index l.pool)
