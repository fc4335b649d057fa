-- The numbers of what a chart declares, and of what it may name outside itself.
use Rattle.std.specs.Prelude.{◌≡◌, ℕ, ℤ, ◌-◌, List, map, slice_get, Some, None}
use Rattle.std.specs.declared.option.Option.{Option}
use Rattle.std.specs.Option.{option_and_then}
use Rattle.qp_chart_names.specs.declared.raw.RawChart.{RawChart}
use Rattle.qp_chart_names.specs.declared.raw.RawState.{RawState}
use Rattle.qp_chart_names.specs.declared.raw.RawTimer.{RawTimer}
use Rattle.qp_chart_names.specs.declared.raw.SigName.{SigName}
use Rattle.qp_chart_names.specs.declared.raw.ObjName.{ObjName}
use Rattle.qp_chart_names.specs.declared.raw.Names.{Names}
use Rattle.qp_chart_names.specs.Numbering.{number_in}

-- the names of these states
abbrev pub state_names : List RawState → List (List ℕ)
state_names states = map (λ state. state.name) states

-- the names of these time events
abbrev pub timer_names : List RawTimer → List (List ℕ)
timer_names timers = map (λ timer. timer.name) timers

-- the names of these variables
abbrev pub variable_names : List ((List ℕ) × ℤ) → List (List ℕ)
variable_names vars = map (λ var. var.0) vars

-- the names of these signals
abbrev pub signal_names : List SigName → List (List ℕ)
signal_names signals = map (λ signal. signal.name) signals

-- the names of these objects
abbrev pub object_names : List ObjName → List (List ℕ)
object_names objects = map (λ object. object.name) objects

-- states are numbered from 1
abbrev pub state_number : RawChart → List ℕ → Option ℕ
state_number chart name = number_in 1 (state_names chart.state) name

-- the time events of a chart are numbered from 1
abbrev pub timer_by_name : RawChart → List ℕ → Option ℕ
timer_by_name chart name = number_in 1 (timer_names chart.timer) name

-- variables are numbered from 0, in ascending name
abbrev pub variable_number : RawChart → List ℕ → Option ℕ
variable_number chart name = number_in 0 (variable_names chart.vars) name

-- signals are numbered from 4
abbrev pub signal_number : Names → List ℕ → Option ℕ
signal_number names name = number_in 4 (signal_names names.signals) name

-- a signal by its number
abbrev pub signal_numbered : Names → ℕ → Option SigName
signal_numbered names number = slice_get names.signals (number - 4)

-- a signal by its name
unfoldable pub signal_named : Names → List ℕ → Option SigName
signal_named names name = option_and_then (λ number. signal_numbered names number) (signal_number names name)

-- an object by its name
unfoldable pub object_named : Names → List ℕ → Option ObjName
object_named names name = option_and_then (λ place. slice_get names.objects place) (number_in 0 (object_names names.objects) name)

-- an optional key and the number of what it names
abbrev pub Refers : (List ℕ → Option ℕ) → Option (List ℕ) → Option ℕ → Type 0
Refers number None None = Unit {0}
Refers number None (Some n) = ⊥
Refers number (Some name) None = ⊥
Refers number (Some name) (Some n) = number name ≡ Some n
