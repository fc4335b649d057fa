-- The limits of runs.
use Rattle.std.specs.Prelude.{ℕ}

-- the greatest budget: so many entries an object may be let take in a run
abbrev pub budget_limit : ℕ
budget_limit = 1000000
