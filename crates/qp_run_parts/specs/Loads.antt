-- Loads of files.
use Rattle.std.specs.Prelude.{◌≡◌, ◌<◌, ◌≤◌, ℕ, List, length, Option, Some, None}
use Rattle.qp_base.specs.Limits.{file_limit}
use Rattle.qp_run_parts.specs.declared.status.Status.{Status}
use Rattle.qp_run_parts.specs.declared.status.Status.TheVariants.{Absent, TooLong}

-- a file was loaded: it is there, and short enough
abbrev pub IsLoaded : Option (List ℕ) → List ℕ → Type 0
IsLoaded held bytes = (held ≡ Some bytes) × (length bytes ≤ file_limit)

-- a file was not loaded, and this is the answer
abbrev pub EndsAtLoad : ℕ → Option (List ℕ) → Status → Type 0
EndsAtLoad file None answer = answer ≡ Absent file
EndsAtLoad file (Some bytes) answer = (file_limit < length bytes) × (answer ≡ TooLong file (length bytes))
