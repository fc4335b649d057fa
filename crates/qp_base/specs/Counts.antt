-- Counts of faults and misses, which are 64-bit numbers that never fall.
use Rattle.std.specs.Prelude.{◌≡◌, ◌+◌, ◌≤◌, ℕ, Bool, min}
use Rattle.std.specs.Bool.{MatchBool}

-- where a count stands still
abbrev pub last_count : ℕ
last_count = 18446744073709551615

-- the count after one more
abbrev pub next_count : ℕ → ℕ
next_count n = min (n + 1) last_count

-- a count rose in a call: it is greater after the call than before, or it stands at its end
abbrev pub Rose : ℕ → ℕ → Type 0
Rose old new = next_count old ≤ new

-- the count rose where this holds, and else it is what it was
abbrev pub CountsIf : Bool → ℕ → ℕ → Type 0
CountsIf it_happened old new = MatchBool it_happened (Rose old new) (new ≡ old)
