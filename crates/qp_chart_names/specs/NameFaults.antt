-- The faults of names: one that isn't declared, and one that stands twice.
use Rattle.std.specs.Prelude.{ℕ, ◌-◌, List, [], ◌∷◌, take, Some, None}
use Rattle.std.specs.declared.option.Option.{Option}
use Rattle.std.specs.List.{list_any}
use Rattle.std.specs.Str.{bytes_eq}
use Rattle.qp_chart_names.specs.declared.place.Part.{Part}
use Rattle.qp_chart_names.specs.declared.place.Part.TheVariants.{Key, Pos}
use Rattle.qp_chart_names.specs.Keys.{STATE, TIMER, NAME}
use Rattle.qp_chart_names.specs.Codes.{DOUBLE, NO_SUCH_NAME}
use Rattle.qp_chart_names.specs.declared.raw.RawChart.{RawChart}
use Rattle.qp_chart_names.specs.Faults.{Fault, fault, fault_if, first_of, first_in}
use Rattle.qp_chart_names.specs.RawNumbers.{state_names, timer_names}

-- a name that isn't declared
abbrev pub undeclared : Option ℕ → List Part → Option Fault
undeclared None place = fault NO_SUCH_NAME place
undeclared (Some n) place = None

-- an optional key whose name isn't declared
abbrev pub undeclared_key : (List ℕ → Option ℕ) → Option (List ℕ) → List Part → Option Fault
undeclared_key number None place = None
undeclared_key number (Some name) place = undeclared (number name) place

-- an earlier thing has the name of the k-th
unfoldable pub double_at : ℕ → List (List ℕ) → ℕ → List ℕ → Option Fault
double_at list names k name = fault_if (list_any (bytes_eq name) (take (k - 1) names)) DOUBLE (Key list ∷ Pos k ∷ Key NAME ∷ [])

-- the first name that stands twice among those of the things in the list at this key
unfoldable pub double_fault : ℕ → List (List ℕ) → Option Fault
double_fault list names = first_in (double_at list names) 1 names

-- the first name that stands twice among the time events, or among the states
unfoldable pub doubles_fault : RawChart → Option Fault
doubles_fault chart = first_of (double_fault TIMER (timer_names chart.timer) ∷ double_fault STATE (state_names chart.state) ∷ [])
