-- Faults within the charts of a system file.
use Rattle.std.specs.Prelude.{ℕ, List, ◌∷◌, map}
use Rattle.std.specs.declared.option.Option.{Option}
use Rattle.std.specs.Option.{option_map}
use Rattle.qp_chart_names.specs.declared.place.Part.TheVariants.{Key, Pos}
use Rattle.qp_chart_names.specs.Keys.{CHART}
use Rattle.qp_chart_names.specs.declared.raw.Names.{Names}
use Rattle.qp_chart_names.specs.declared.raw.SigName.{SigName}
use Rattle.qp_chart_names.specs.declared.raw.ObjName.{ObjName}
use Rattle.qp_chart_names.specs.declared.raw.RawChart.{RawChart}
use Rattle.qp_chart_names.specs.Faults.{Fault, first_in}
use Rattle.qp_chart.specs.ChartFaults.{chart_fault}
use Rattle.qp_model.specs.declared.systems.SignalDef.{SignalDef}
use Rattle.qp_system_tables.specs.declared.raw.RawObject.{RawObject}

abbrev pub signal_name : SignalDef → SigName
signal_name s = record { name = s.name; params = s.params; fixed = s.fixed }

abbrev pub object_name : RawObject → ObjName
object_name o = record { name = o.name; priority = o.priority }

-- what charts may name outside themselves
abbrev pub outer_names : List SignalDef → List RawObject → Names
outer_names signals objects = record { signals = map signal_name signals; objects = map object_name objects }

-- a fault of the k-th chart, as one of the file
abbrev pub in_chart : ℕ → Fault → Fault
in_chart k f = record { code = f.code; path = Key CHART ∷ Pos k ∷ f.path }

-- the first fault of the k-th chart
unfoldable pub within_chart : Names → ℕ → RawChart → Option Fault
within_chart names k chart = option_map (in_chart k) (chart_fault names chart)

-- the first fault within these charts
unfoldable pub charts_fault : Names → List RawChart → Option Fault
charts_fault names charts = first_in (within_chart names) 1 charts
