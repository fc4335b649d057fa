-- Objects whose charts are declared.
use Rattle.std.specs.Prelude.{ℕ, ◌≤◌, List, length, IsSome}
use Rattle.std.specs.declared.option.Option.{Option}
use Rattle.std.specs.List.{position}
use Rattle.std.specs.Str.{bytes_eq}
use Rattle.qp_chart.specs.declared.checked.Chart.{Chart}
use Rattle.qp_chart_names.specs.declared.raw.RawChart.{RawChart}
use Rattle.qp_model.specs.declared.systems.ObjectDef.{ObjectDef}
use Rattle.qp_system_tables.specs.declared.raw.RawObject.{RawObject}

-- the place of the first chart of this name, from 0
abbrev pub chart_place : List RawChart → List ℕ → Option ℕ
chart_place charts name = position (λ chart. bytes_eq chart.name name) charts

-- the object's chart is one of these
abbrev pub NamesChart : List RawChart → RawObject → Type 0
NamesChart charts raw = IsSome (chart_place charts raw.chart)

-- the object's chart has a number among these
abbrev pub HasChartAmong : List Chart → ObjectDef → Type 0
HasChartAmong charts object = (1 ≤ object.chart) × (object.chart ≤ length charts)
