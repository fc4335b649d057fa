-- Faults between the tables of a system file: what stands twice, isn't declared, or doesn't fit together.
use Rattle.std.specs.Prelude.{ℕ, ◌+◌, ◌==◌, nat_lt, nat_le, Bool, false, not, ◌&&◌, List, [], ◌∷◌, ◌++◌, length, map, Some, None}
use Rattle.std.specs.declared.option.Option.{Option}
use Rattle.std.specs.List.{list_all, list_any, find, sum_by}
use Rattle.std.specs.Option.{option_map_or, option_or, is_none}
use Rattle.std.specs.Str.{bytes_eq}
use Rattle.qp_chart_names.specs.declared.place.Part.TheVariants.{Key, Pos}
use Rattle.qp_chart_names.specs.Keys.{POOL, SIGNAL, CHART, OBJECT, SIZE, NAME, STATIC, VARS, PRIORITY, THRESHOLD}
use Rattle.qp_chart_names.specs.Codes.{RANGE, DOUBLE, NO_SUCH_NAME, TOO_MANY, NO_POOL}
use Rattle.qp_chart_names.specs.Faults.{Fault, fault_if, first_of, first_in}
use Rattle.qp_model.specs.declared.systems.PoolDef.{PoolDef}
use Rattle.qp_model.specs.declared.systems.SignalDef.{SignalDef}
use Rattle.qp_chart_names.specs.declared.raw.RawChart.{RawChart}
use Rattle.qp_system_tables.specs.declared.raw.RawObject.{RawObject}
use Rattle.qp_system_tables.specs.declared.raw.RawSystem.{RawSystem}

-- the size isn't above the one before it
abbrev pub is_not_above : Option ℕ → ℕ → Bool
is_not_above None size = false
is_not_above (Some before) size = nat_le size before

-- sizes of pools ascend; the first of these has place k
unfoldable pub sizes_fault : ℕ → Option ℕ → List PoolDef → Option Fault
sizes_fault k before [] = None
sizes_fault k before (p ∷ ps) =
    option_or (fault_if (is_not_above before p.size) RANGE (Key POOL ∷ Pos k ∷ Key SIZE ∷ [])) (sizes_fault (k + 1) (Some p.size) ps)

-- the k-th thing has the name of an earlier one
abbrev pub name_fault : ℕ → List (List ℕ) → ℕ → List ℕ → Option Fault
name_fault list earlier k name = fault_if (list_any (bytes_eq name) earlier) DOUBLE (Key list ∷ Pos k ∷ Key NAME ∷ [])

-- a signal behind these: its name stands before, or it is static and has parameters
unfoldable pub signal_fault : List SignalDef → ℕ → SignalDef → Option Fault
signal_fault earlier k s =
    first_of
    (name_fault SIGNAL (map (λ t. t.name) earlier) k s.name
    ∷ fault_if (s.fixed && not (s.params == 0)) RANGE (Key SIGNAL ∷ Pos k ∷ Key STATIC ∷ [])
    ∷ [])

-- a chart behind these
unfoldable pub chart_name_fault : List RawChart → ℕ → RawChart → Option Fault
chart_name_fault earlier k c = name_fault CHART (map (λ d. d.name) earlier) k c.name

-- an object behind these, by its name
unfoldable pub object_fault : List RawObject → ℕ → RawObject → Option Fault
object_fault earlier k o = name_fault OBJECT (map (λ p. p.name) earlier) k o.name

-- the first chart of this name
abbrev pub chart_named : List RawChart → List ℕ → Option RawChart
chart_named charts name = find (λ c. bytes_eq c.name name) charts

-- the chart has a variable of each of these names
abbrev pub has_vars : RawChart → RawObject → Bool
has_vars c o = list_all (λ var. list_any (λ own. bytes_eq own.0 var.0) c.vars) o.vars

-- how many time events an object has
abbrev pub timer_count_of : List RawChart → RawObject → ℕ
timer_count_of charts o = option_map_or (λ c. length c.timer) (chart_named charts o.chart) 0

-- an object behind these: its chart, its variables, its priority, its threshold, and the time events up to it
unfoldable pub placing_fault : List RawChart → List RawObject → ℕ → RawObject → Option Fault
placing_fault charts earlier k o =
    first_of
    (fault_if (is_none (chart_named charts o.chart)) NO_SUCH_NAME (Key OBJECT ∷ Pos k ∷ Key CHART ∷ [])
    ∷ fault_if (not (option_map_or (λ c. has_vars c o) (chart_named charts o.chart) false)) NO_SUCH_NAME (Key OBJECT ∷ Pos k ∷ Key VARS ∷ [])
    ∷ fault_if (list_any (λ p. p.priority == o.priority) earlier) DOUBLE (Key OBJECT ∷ Pos k ∷ Key PRIORITY ∷ [])
    ∷ fault_if (nat_lt o.threshold o.priority) RANGE (Key OBJECT ∷ Pos k ∷ Key THRESHOLD ∷ [])
    ∷ fault_if (nat_lt 64 (sum_by (timer_count_of charts) earlier + timer_count_of charts o)) TOO_MANY (Key OBJECT ∷ Pos k ∷ [])
    ∷ [])

-- the first fault among things, each seen with those before it
unfoldable pub first_behind : {A : Type 0} → (List A → ℕ → A → Option Fault) → List A → ℕ → List A → Option Fault
first_behind f earlier k [] = None
first_behind f earlier k (x ∷ xs) = option_or (f earlier k x) (first_behind f (earlier ++ x ∷ []) (k + 1) xs)

-- the first fault between tables, before those within charts
unfoldable pub between_fault : RawSystem → Option Fault
between_fault raw =
    first_of
    (sizes_fault 1 None raw.pools
    ∷ first_behind signal_fault [] 1 raw.signals
    ∷ first_behind chart_name_fault [] 1 raw.charts
    ∷ first_behind object_fault [] 1 raw.objects
    ∷ first_behind (placing_fault raw.charts) [] 1 raw.objects
    ∷ [])

-- no pool has blocks for a signal that isn't static
abbrev pub is_without_pool : List PoolDef → SignalDef → Bool
is_without_pool pools s = not s.fixed && not (list_any (λ p. nat_le s.params p.size) pools)

-- the first signal without a pool among these
unfoldable pub no_pool_fault : List PoolDef → List SignalDef → Option Fault
no_pool_fault pools signals = first_in (λ k s. fault_if (is_without_pool pools s) NO_POOL (Key SIGNAL ∷ Pos k ∷ [])) 1 signals

-- the first signal without a pool, after the faults within charts
abbrev pub pools_fault : RawSystem → Option Fault
pools_fault raw = no_pool_fault raw.pools raw.signals
