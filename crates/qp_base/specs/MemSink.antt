-- Sinks in memory.
use Rattle.std.specs.Prelude.{◌-◌, ◌==◌, ℕ, List, ◌++◌, find, length, take, Option, Some, None, is_some, cond, min, nat_le}
use Rattle.std.specs.Option.{option_map}
use Rattle.qp_base.specs.Counts.{next_count}

-- the bytes written, how many there may be, the puts that fail with what they keep, and how many puts and faults there were
pub record Stored : Type 0 where
  pub bytes : List ℕ
  pub room : ℕ
  pub failing : List (ℕ × ℕ)
  pub puts : ℕ
  pub faults : ℕ

-- what the first pair of this number says
abbrev pub first_said : List (ℕ × ℕ) → ℕ → Option ℕ
first_said pairs put = option_map (λ pair. pair.1) (find (λ pair. pair.0 == put) pairs)

-- how many of n bytes are kept by a put that fails, as listed or for want of room
abbrev pub kept_of : Option ℕ → ℕ → ℕ → Option ℕ
kept_of (Some kept) n free = Some (min (min kept n) free)
kept_of None n free = cond (nat_le n free) None (Some free)

-- how many of n bytes the next put keeps, if it fails
abbrev pub kept_at_fault : Stored → ℕ → Option ℕ
kept_at_fault s n = kept_of (first_said s.failing s.puts) n (s.room - length s.bytes)

-- the bytes that are kept
abbrev pub kept_bytes : Option ℕ → List ℕ → List ℕ
kept_bytes None bytes = bytes
kept_bytes (Some kept) bytes = take kept bytes

-- the sink after a put of these bytes
abbrev pub after_put : Stored → List ℕ → Stored
after_put s bytes = record s {
  bytes = s.bytes ++ kept_bytes (kept_at_fault s (length bytes)) bytes;
  puts = next_count s.puts;
  faults = cond (is_some (kept_at_fault s (length bytes))) (next_count s.faults) s.faults;
}
