-- The limits of the edges.
use Rattle.std.specs.Prelude.{ℕ}

-- the longest file that a shelf loads, in bytes
abbrev pub file_limit : ℕ
file_limit = 67108864
