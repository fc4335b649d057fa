-- Bytes.
use Rattle.std.specs.Prelude.{ℕ, nat_lt, Bool, List}
use Rattle.std.specs.List.{list_all}

-- each number is a byte
abbrev pub are_bytes : List ℕ → Bool
are_bytes bytes = list_all (λ (b : ℕ). nat_lt b 256) bytes
