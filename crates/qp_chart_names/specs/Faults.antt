-- Faults of a chart, and which comes first.
use Rattle.std.specs.Prelude.{◌≡◌, ℕ, ◌+◌, Bool, List, [], ◌∷◌, Some, None, if◌then◌else◌}
use Rattle.std.specs.declared.option.Option.{Option}
use Rattle.std.specs.Option.{option_or}
use Rattle.qp_chart_names.specs.declared.place.Part.{Part}
use Rattle.qp_chart_names.specs.declared.fault.ChartFault.{ChartFault}
use Rattle.qp_chart_names.specs.declared.fault.ChartFault.TheVariants.{Memory, At}

-- a code and the path to its place
pub record Fault : Type 0 where
  pub code : ℕ
  pub path : List Part

-- the fault of this code at this place
abbrev pub fault : ℕ → List Part → Option Fault
fault code path = Some (record { code = code; path = path })

-- a fault, where the test holds
abbrev pub fault_if : Bool → ℕ → List Part → Option Fault
fault_if test code path = if test then fault code path else None

-- the first fault of these
unfoldable pub first_of : List (Option Fault) → Option Fault
first_of [] = None
first_of (o ∷ os) = option_or o (first_of os)

-- the first fault among the things of a list, whose places count from k
unfoldable pub first_in : {A : Type 0} → (ℕ → A → Option Fault) → ℕ → List A → Option Fault
first_in f k [] = None
first_in f k (x ∷ xs) = option_or (f k x) (first_in f (k + 1) xs)

-- the refusal is want of memory, or carries this fault
abbrev pub IsChartFault : Option Fault → ChartFault → Type 0
IsChartFault first Memory = Unit {0}
IsChartFault first (At c p) = first ≡ fault c p.0.items
