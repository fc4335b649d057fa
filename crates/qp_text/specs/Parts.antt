-- Bytes cut at a separator.
use Rattle.std.specs.Prelude.{ℕ, ◌==◌, List, [], ◌∷◌, if◌then◌else◌, Option, Some, None}
use Rattle.std.specs.Borrow.{Bor}

-- the parts with this byte in front of the first
abbrev pub with_first : ℕ → List (List ℕ) → List (List ℕ)
with_first b [] = (b ∷ []) ∷ []
with_first b (part ∷ parts) = (b ∷ part) ∷ parts

-- the parts before, between and behind the separators; there is always one
abbrev pub split : ℕ → List ℕ → List (List ℕ)
split separator [] = [] ∷ []
split separator (b ∷ bytes) = if b == separator then [] ∷ split separator bytes else with_first b (split separator bytes)

-- the parts behind a separator, if there was one
abbrev pub parts_behind : ℕ → Option (Bor (List ℕ)) → List (List ℕ)
parts_behind separator None = []
parts_behind separator (Some bytes) = split separator bytes.now
