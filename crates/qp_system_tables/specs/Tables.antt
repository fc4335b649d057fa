-- The tables of a system file: a system whose names aren't looked up, or the first fault of a tree that any table has by itself.
use Rattle.std.specs.Prelude.{ℕ, Bool, true, false, List, [], ◌∷◌, ◌++◌, if◌then◌else◌, Some, None, Ok}
use Rattle.std.specs.declared.option.Option.{Option}
use Rattle.std.specs.declared.result.Result.{Result}
use Rattle.std.specs.Option.{option_map_or}
use Rattle.toml.specs.Data.{Data, Items, no_items, item, Members, as_array}
use Rattle.qp_chart_names.specs.declared.place.Part.{Part}
use Rattle.qp_chart_names.specs.declared.place.Part.TheVariants.{Key}
use Rattle.qp_chart_names.specs.Keys.{QP, POOL, SIGNAL, CHART, OBJECT, SIZE, BLOCKS, NAME, PARAMS, STATIC, INIT, INIT_DO, VARS, TIMER, STATE, RATE, PARENT, ENTRY, EXIT, ROW, ON, WHEN, DO, TO, PRIORITY, QUEUE, DEFER, THRESHOLD}
use Rattle.qp_chart_names.specs.Codes.{MISSING}
use Rattle.qp_chart_names.specs.Faults.{Fault}
use Rattle.qp_model.specs.declared.systems.PoolDef.{PoolDef}
use Rattle.qp_model.specs.declared.systems.SignalDef.{SignalDef}
use Rattle.qp_chart_names.specs.declared.raw.RawTimer.{RawTimer}
use Rattle.qp_chart_names.specs.declared.raw.RawRow.{RawRow}
use Rattle.qp_chart_names.specs.declared.raw.RawState.{RawState}
use Rattle.qp_chart_names.specs.declared.raw.RawChart.{RawChart}
use Rattle.qp_system_tables.specs.declared.raw.RawObject.{RawObject}
use Rattle.qp_system_tables.specs.declared.raw.RawSystem.{RawSystem}
use Rattle.qp_system_tables.specs.Tree.{refuse, at_key, knows_keys, needed, defaulted, optional, each}
use Rattle.qp_model.specs.Results.{◌>>=◌}
use Rattle.qp_system_tables.specs.Values.{integer_between, name_of, text_value, flag_value, texts_of, vars_of, tables_of}

-- a list of tables, each of which is read in turn right after the list itself
abbrev pub read_tables : {A : Type 0} → (List Part → Members → Result A Fault) → List Part → Result (List Members) Fault → Result (List A) Fault
read_tables read place tables = tables >>= λ ts. each read place 1 ts

unfoldable pub read_pool : List Part → Members → Result PoolDef Fault
read_pool at table = do
  _ ← knows_keys (SIZE ∷ BLOCKS ∷ []) at table
  size ← needed (integer_between 0 8) SIZE at table
  blocks ← needed (integer_between 1 32) BLOCKS at table
  Ok (record { size = size; blocks = blocks })

unfoldable pub read_signal : List Part → Members → Result SignalDef Fault
read_signal at table = do
  _ ← knows_keys (NAME ∷ PARAMS ∷ STATIC ∷ []) at table
  name ← needed name_of NAME at table
  params ← defaulted 0 (integer_between 0 8) PARAMS at table
  fixed ← defaulted false flag_value STATIC at table
  Ok (record { name = name; params = params; fixed = fixed })

unfoldable pub read_timer : List Part → Members → Result RawTimer Fault
read_timer at table = do
  _ ← knows_keys (NAME ∷ SIGNAL ∷ RATE ∷ []) at table
  name ← needed name_of NAME at table
  signal ← needed name_of SIGNAL at table
  rate ← needed (integer_between 0 3) RATE at table
  Ok (record { name = name; signal = signal; rate = rate })

unfoldable pub read_row : List Part → Members → Result RawRow Fault
read_row at table = do
  _ ← knows_keys (ON ∷ WHEN ∷ DO ∷ TO ∷ []) at table
  on ← needed name_of ON at table
  when ← optional text_value WHEN at table
  acts ← defaulted [] texts_of DO at table
  to ← optional name_of TO at table
  Ok (record { on = on; when = when; acts = acts; to = to })

abbrev pub is_filled : Items → Bool
is_filled no_items = false
is_filled (item value more) = true

-- a list that isn't empty
abbrev pub has_items : Option Data → Bool
has_items None = false
has_items (Some value) = option_map_or is_filled (as_array value) false

-- `init` of a state, which may not be missing beside an `init_do` that isn't empty
abbrev pub read_initial : List Part → Option Data → Option Data → Result (Option (List ℕ)) Fault
read_initial place (Some value) acts = name_of place value >>= λ name. Ok (Some name)
read_initial place None acts = if has_items acts then refuse MISSING place else Ok None

unfoldable pub read_state : List Part → Members → Result RawState Fault
read_state at table = do
  _ ← knows_keys (NAME ∷ PARENT ∷ ENTRY ∷ EXIT ∷ INIT ∷ INIT_DO ∷ ROW ∷ []) at table
  name ← needed name_of NAME at table
  parent ← optional name_of PARENT at table
  entry ← defaulted [] texts_of ENTRY at table
  exit ← defaulted [] texts_of EXIT at table
  init ← read_initial (at ++ Key INIT ∷ []) (at_key INIT table) (at_key INIT_DO table)
  init_do ← defaulted [] texts_of INIT_DO at table
  rows ← read_tables read_row (at ++ Key ROW ∷ []) (defaulted [] (tables_of 0 32) ROW at table)
  Ok (record { name = name; parent = parent; entry = entry; exit = exit; init = init; init_do = init_do; row = rows })

unfoldable pub read_chart : List Part → Members → Result RawChart Fault
read_chart at table = do
  _ ← knows_keys (NAME ∷ INIT ∷ INIT_DO ∷ VARS ∷ TIMER ∷ STATE ∷ []) at table
  name ← needed name_of NAME at table
  init ← needed name_of INIT at table
  init_do ← defaulted [] texts_of INIT_DO at table
  vars ← defaulted [] (vars_of (Some 16)) VARS at table
  timers ← read_tables read_timer (at ++ Key TIMER ∷ []) (defaulted [] (tables_of 0 8) TIMER at table)
  states ← read_tables read_state (at ++ Key STATE ∷ []) (needed (tables_of 1 64) STATE at table)
  Ok (record { name = name; init = init; init_do = init_do; vars = vars; timer = timers; state = states })

unfoldable pub read_object : List Part → Members → Result RawObject Fault
read_object at table = do
  _ ← knows_keys (NAME ∷ CHART ∷ PRIORITY ∷ THRESHOLD ∷ QUEUE ∷ DEFER ∷ VARS ∷ []) at table
  name ← needed name_of NAME at table
  chart ← needed name_of CHART at table
  priority ← needed (integer_between 1 32) PRIORITY at table
  threshold ← defaulted priority (integer_between 1 32) THRESHOLD at table
  queue ← needed (integer_between 0 255) QUEUE at table
  defer ← defaulted 0 (integer_between 0 255) DEFER at table
  vars ← defaulted [] (vars_of None) VARS at table
  Ok (record { name = name; chart = chart; priority = priority; threshold = threshold; queue = queue; defer = defer; vars = vars })

-- the whole tree, in the order of the keys
unfoldable pub raw_of : Members → Result RawSystem Fault
raw_of table = do
  _ ← knows_keys (QP ∷ POOL ∷ SIGNAL ∷ CHART ∷ OBJECT ∷ []) [] table
  version ← needed (integer_between 1 1) QP [] table
  pools ← read_tables read_pool (Key POOL ∷ []) (defaulted [] (tables_of 0 15) POOL [] table)
  signals ← read_tables read_signal (Key SIGNAL ∷ []) (defaulted [] (tables_of 0 200) SIGNAL [] table)
  charts ← read_tables read_chart (Key CHART ∷ []) (needed (tables_of 1 32) CHART [] table)
  objects ← read_tables read_object (Key OBJECT ∷ []) (needed (tables_of 1 32) OBJECT [] table)
  Ok (record { pools = pools; signals = signals; charts = charts; objects = objects })
