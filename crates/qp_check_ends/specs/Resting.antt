-- The references to a block that stand after any operations, kept as counts.
use Rattle.std.specs.Prelude.{◌≡◌, ℕ, nat_lt, Bool, true, List, length, get_or}
use Rattle.qp_model.specs.declared.bodies.Body.{Body}
use Rattle.qp_model.specs.declared.bodies.Body.TheVariants.{Inc}
use Rattle.qp_check_lanes.specs.Standing.{times_in}

-- how often each reference stands, and how many stand in all
pub record AreNamesCounted (names : List ℕ) (counts : List ℕ) (many : ℕ) : Type 0 where
  pub total : many ≡ length names
  pub each : (k : ℕ) → times_in k names ≡ get_or counts k 0

-- where it makes a reference, its number is below n
abbrev pub makes_below : ℕ → Body → Bool
makes_below n (Inc p b r) = nat_lt r n
makes_below n _ = true
