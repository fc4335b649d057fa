-- The system that the bytes of a file are.
use Rattle.std.specs.Prelude.{◌≡◌, ℕ, ℤ, ◌-◌, List, map, slice_get, Some, None, Ok, Err, ⊤, ◌⊎◌}
use Rattle.std.specs.declared.option.Option.{Option}
use Rattle.std.specs.List.{find, flat_map}
use Rattle.std.specs.List.Sorted.{IsPermutation}
use Rattle.std.specs.Option.{option_map, option_map_or}
use Rattle.std.specs.Str.{IsUtf8, bytes_eq}
use Rattle.toml.specs.Parse.{parse_document}
use Rattle.qp_chart_names.specs.declared.raw.RawChart.{RawChart}
use Rattle.qp_chart.specs.ChartOf.{IsChartOf}
use Rattle.qp_chart_names.specs.Faults.{Fault}
use Rattle.qp_chart_names.specs.Numbering.{number_in}
use Rattle.qp_chart_names.specs.Pairs.{Corresponds}
use Rattle.qp_model.specs.declared.systems.ObjectDef.{ObjectDef}
use Rattle.qp_model.specs.declared.systems.System.{System}
use Rattle.qp_model.specs.Laws.{Ascend}
use Rattle.qp_model.specs.Sound.{timers_of}
use Rattle.qp_system_tables.specs.declared.fault.SystemFault.{SystemFault}
use Rattle.qp_system_tables.specs.declared.fault.SystemFault.TheVariants.{Memory, NotToml, At}
use Rattle.qp_system_tables.specs.declared.raw.RawObject.{RawObject}
use Rattle.qp_system_tables.specs.declared.raw.RawSystem.{RawSystem}
use Rattle.qp_system_tables.specs.Document.{TreeGives}
use Rattle.qp_system.specs.Later.{later_fault}
use Rattle.qp_system.specs.Within.{outer_names}

-- the names of these charts
abbrev pub chart_names : List RawChart → List (List ℕ)
chart_names charts = map (λ chart. chart.name) charts

-- charts are numbered from 1
abbrev pub chart_number : List RawChart → List ℕ → Option ℕ
chart_number charts name = number_in 1 (chart_names charts) name

-- the first value of a variable of the chart: the object's own, where it has one
abbrev pub initial_value : List ((List ℕ) × ℤ) → (List ℕ) × ℤ → ℤ
initial_value own var = option_map_or (λ v. v.1) (find (λ v. bytes_eq v.0 var.0) own) var.1

-- the first values of the variables of the chart with this number
abbrev pub first_values : List RawChart → ℕ → List ((List ℕ) × ℤ) → Option (List ℤ)
first_values charts number own = option_map (λ chart. map (initial_value own) chart.vars) (slice_get charts (number - 1))

-- an object of the file, with its chart's number
pub record IsObjectOf (charts : List RawChart) (raw : RawObject) (object : ObjectDef) : Type 0 where
  pub name : object.name ≡ raw.name
  pub chart : chart_number charts raw.chart ≡ Some object.chart
  pub priority : object.priority ≡ raw.priority
  pub threshold : object.threshold ≡ raw.threshold
  pub ring : object.ring ≡ raw.queue
  pub defer : object.defer ≡ raw.defer
  pub vars : first_values charts object.chart raw.vars ≡ Some object.vars

-- the objects of the file, in ascending priority
pub record AreObjectsOf (charts : List RawChart) (raws : List RawObject) (objects : List ObjectDef) : Type 0 where
  pub order : List RawObject
  pub same : IsPermutation raws order
  pub each : Corresponds (IsObjectOf charts) order objects
  pub ascend : Ascend objects

-- the bytes are the TOML text of a tree without a fault, and this is its system: pools, signals and charts in the file's
-- order, objects in ascending priority, and time events object by object
pub record IsSystemOf (bytes : List ℕ) (sys : System) : Type 0 where
  pub raw : RawSystem
  pub read : TreeGives bytes (Ok raw)
  pub passed : later_fault raw ≡ None
  pub pools : sys.pools ≡ raw.pools
  pub signals : sys.signals ≡ raw.signals
  pub charts : Corresponds (IsChartOf (outer_names raw.signals raw.objects)) raw.charts sys.charts
  pub objects : AreObjectsOf raw.charts raw.objects sys.objects
  pub timers : sys.timers ≡ flat_map (timers_of sys.charts) sys.objects

-- the bytes are the TOML text of a tree with this fault first: one that a table has by itself, or else one of the whole
unfoldable pub HasFault : List ℕ → Fault → Type 0
HasFault bytes f = TreeGives bytes (Err f) ⊎ ((raw : RawSystem) × TreeGives bytes (Ok raw) × (later_fault raw ≡ Some f))

-- why bytes are refused: they are no TOML, or have this fault first; want of memory needs no cause
abbrev pub RefusesSystem : List ℕ → SystemFault → Type 0
RefusesSystem bytes Memory = ⊤
RefusesSystem bytes NotToml = IsUtf8 bytes → parse_document bytes ≡ None
RefusesSystem bytes (At code path) = HasFault bytes (record { code = code; path = path.0.items })
