-- What a put adds to a sink.
use Rattle.std.specs.Prelude.{◌≡◌, ◌≤◌, ℕ, List, ◌++◌, length, take, Option}
use Rattle.std.specs.Io.KnownBytes.{Appends}
use Rattle.std.specs.Option.{option_map}

-- what has been written once these bytes are too, where the sink tells
abbrev pub appended : Option (List ℕ) → List ℕ → Option (List ℕ)
appended written bytes = option_map (λ old. old ++ bytes) written

-- some of the bytes were added, from the first on
abbrev pub AppendsPrefix : Option (List ℕ) → List ℕ → Option (List ℕ) → Type 0
AppendsPrefix old bytes new = (k : ℕ) × (k ≤ length bytes) × (new ≡ appended old (take k bytes))

-- a writer took some of the bytes, from the first on
abbrev pub TakesPrefix : Option (List ℕ) → Option (List ℕ) → List ℕ → Type 0
TakesPrefix old new bytes = (k : ℕ) × (k ≤ length bytes) × Appends old new (take k bytes)
