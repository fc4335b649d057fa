-- The first fault of a chart, in the order of the file.
use Rattle.std.specs.Prelude.{ℕ, ◌-◌, Bool, false, not, ◌&&◌, List, [], ◌∷◌, ◌++◌, take, Some, None}
use Rattle.std.specs.declared.option.Option.{Option}
use Rattle.std.specs.Option.{is_none}
use Rattle.std.specs.List.{list_any}
use Rattle.std.specs.Str.{bytes_eq}
use Rattle.qp_chart_names.specs.declared.place.Part.{Part}
use Rattle.qp_chart_names.specs.declared.place.Part.TheVariants.{Key, Pos}
use Rattle.qp_chart_names.specs.Keys.{STATE, TIMER, SIGNAL, ROW, PARENT, ENTRY, EXIT, INIT, INIT_DO, ON, WHEN, DO, TO}
use Rattle.qp_chart_names.specs.Codes.{RANGE, INIT_NOT_BELOW, TWO_ROWS}
use Rattle.qp_chart_names.specs.declared.raw.RawChart.{RawChart}
use Rattle.qp_chart_names.specs.declared.raw.RawTimer.{RawTimer}
use Rattle.qp_chart_names.specs.declared.raw.RawState.{RawState}
use Rattle.qp_chart_names.specs.declared.raw.RawRow.{RawRow}
use Rattle.qp_chart_names.specs.declared.raw.Names.{Names}
use Rattle.qp_chart_names.specs.Faults.{Fault, fault_if, first_of, first_in}
use Rattle.qp_chart_names.specs.NameFaults.{undeclared, undeclared_key, doubles_fault}
use Rattle.qp_chart_names.specs.RawNumbers.{state_number, signal_number}
use Rattle.qp_chart.specs.Parents.{parents_of, tree_fault, is_below_in}
use Rattle.qp_chart_names.specs.ActionFaults.{is_static_name, params_of_name, texts_fault, when_fault}

-- the place of a state
abbrev pub state_place : ℕ → List Part
state_place k = Key STATE ∷ Pos k ∷ []

-- the place of a row of a state
abbrev pub row_place : ℕ → ℕ → List Part
row_place k j = Key STATE ∷ Pos k ∷ Key ROW ∷ Pos j ∷ []

-- an earlier row has the same signal and no guard
abbrev pub is_covered : List RawRow → RawRow → Bool
is_covered earlier row = list_any (λ before. bytes_eq before.on row.on && is_none before.when) earlier

-- the first fault of a time event: its signal isn't declared, or isn't static
unfoldable pub timer_fault : Names → ℕ → RawTimer → Option Fault
timer_fault names k timer =
    first_of
    (undeclared (signal_number names timer.signal) (Key TIMER ∷ Pos k ∷ Key SIGNAL ∷ [])
    ∷ fault_if (not (is_static_name names timer.signal)) RANGE (Key TIMER ∷ Pos k ∷ Key SIGNAL ∷ [])
    ∷ [])

-- the parent of the k-th state isn't declared
unfoldable pub parent_at : RawChart → ℕ → RawState → Option Fault
parent_at chart k state = undeclared_key (state_number chart) state.parent (state_place k ++ Key PARENT ∷ [])

-- a state that isn't properly below the k-th
abbrev pub is_astray : RawChart → ℕ → Option ℕ → Bool
is_astray chart k None = false
is_astray chart k (Some target) = not (is_below_in (parents_of chart) target k)

-- the first fault of an initial target: it isn't declared, or isn't properly below its state
unfoldable pub init_fault : RawChart → ℕ → Option (List ℕ) → Option Fault
init_fault chart k None = None
init_fault chart k (Some name) =
    first_of
    (undeclared (state_number chart name) (state_place k ++ Key INIT ∷ [])
    ∷ fault_if (is_astray chart k (state_number chart name)) INIT_NOT_BELOW (state_place k ++ Key INIT ∷ [])
    ∷ [])

-- the first fault of a row: `on`, a row before it, `when`, `do`, `to`
unfoldable pub row_fault : Names → RawChart → List Part → List RawRow → RawRow → Option Fault
row_fault names chart at earlier row =
    first_of
    (undeclared (signal_number names row.on) (at ++ Key ON ∷ [])
    ∷ fault_if (is_covered earlier row) TWO_ROWS at
    ∷ when_fault chart (params_of_name names row.on) (at ++ Key WHEN ∷ []) row.when
    ∷ texts_fault names chart (Some (params_of_name names row.on)) at DO row.acts
    ∷ undeclared_key (state_number chart) row.to (at ++ Key TO ∷ [])
    ∷ [])

-- the first fault of the j-th row of the k-th state
unfoldable pub row_fault_at : Names → RawChart → ℕ → List RawRow → ℕ → RawRow → Option Fault
row_fault_at names chart k rows j row = row_fault names chart (row_place k j) (take (j - 1) rows) row

-- the first fault of the rows of the k-th state
unfoldable pub rows_fault : Names → RawChart → ℕ → List RawRow → Option Fault
rows_fault names chart k rows = first_in (row_fault_at names chart k rows) 1 rows

-- the first fault of the k-th state: its texts, its initial target and its rows, key by key
unfoldable pub state_fault : Names → RawChart → ℕ → RawState → Option Fault
state_fault names chart k state =
    first_of
    (texts_fault names chart None (state_place k) ENTRY state.entry
    ∷ texts_fault names chart None (state_place k) EXIT state.exit
    ∷ init_fault chart k state.init
    ∷ texts_fault names chart None (state_place k) INIT_DO state.init_do
    ∷ rows_fault names chart k state.row
    ∷ [])

-- the first fault of what a chart declares: time events, parents, and the tree that these make
unfoldable pub frame_fault : Names → RawChart → Option Fault
frame_fault names chart =
    first_of
    (first_in (timer_fault names) 1 chart.timer
    ∷ first_in (parent_at chart) 1 chart.state
    ∷ tree_fault (parents_of chart)
    ∷ [])

-- the first fault of a chart's start, and of each state in turn
unfoldable pub body_fault : Names → RawChart → Option Fault
body_fault names chart =
    first_of
    (undeclared (state_number chart chart.init) (Key INIT ∷ [])
    ∷ texts_fault names chart None [] INIT_DO chart.init_do
    ∷ first_in (state_fault names chart) 1 chart.state
    ∷ [])

-- the first fault of what a chart declares, its start, and each state in turn
unfoldable pub parts_fault : Names → RawChart → Option Fault
parts_fault names chart = first_of (frame_fault names chart ∷ body_fault names chart ∷ [])

-- the first fault of a chart: names that stand twice, and its parts
unfoldable pub chart_fault : Names → RawChart → Option Fault
chart_fault names chart = first_of (doubles_fault chart ∷ parts_fault names chart ∷ [])
