-- The rules that every system read from a file meets.
use Rattle.std.specs.Prelude.{◌≡◌, ◌-◌, ◌<◌, ◌≤◌, nat_le, true, false, List, [], ◌∷◌, length, map, slice_get, Some, ⊤}
use Rattle.std.specs.List.{AllByRecursion, flat_map, list_any}
use Rattle.std.specs.Option.{option_map_or}
use Rattle.qp_chart.specs.declared.checked.Timer.{Timer}
use Rattle.qp_chart.specs.declared.checked.Chart.{Chart}
use Rattle.qp_chart.specs.LegalTree.{IsLegal}
use Rattle.qp_model.specs.declared.systems.PoolDef.{PoolDef}
use Rattle.qp_model.specs.declared.systems.SignalDef.{SignalDef}
use Rattle.qp_model.specs.declared.systems.ObjectDef.{ObjectDef}
use Rattle.qp_model.specs.declared.systems.TimerDef.{TimerDef}
use Rattle.qp_model.specs.declared.systems.System.{System}
use Rattle.qp_model.specs.Laws.{Ascend}
use Rattle.qp_model.specs.Sites.{object_at}
use Rattle.qp_model.specs.SoundChart.{IsSoundChart}

-- a pool: for up to 8 parameters, with 1 to 32 blocks
pub record IsSoundPool (pool : PoolDef) : Type 0 where
  pub size : pool.size ≤ 8
  pub some_blocks : 1 ≤ pool.blocks
  pub few_blocks : pool.blocks ≤ 32

-- the size of each pool is below those after it
abbrev pub SizesAscend : List PoolDef → Type 0
SizesAscend [] = ⊤
SizesAscend (p ∷ ps) = AllByRecursion (λ q. p.size < q.size) ps × SizesAscend ps

-- a signal: up to 8 parameters; none where it is static, and else a pool whose blocks have room for them
pub record IsSoundSignal (pools : List PoolDef) (signal : SignalDef) : Type 0 where
  pub params : signal.params ≤ 8
  pub bare : signal.fixed ≡ true → signal.params ≡ 0
  pub pooled : signal.fixed ≡ false → list_any (λ p. nat_le signal.params p.size) pools ≡ true

-- an object: its priority is above 0 and at most its threshold, it has a chart, and a value for each of its variables
pub record IsSoundObject (charts : List Chart) (object : ObjectDef) : Type 0 where
  pub some_priority : 1 ≤ object.priority
  pub threshold : object.priority ≤ object.threshold
  pub few_thresholds : object.threshold ≤ 32
  pub ring : object.ring ≤ 255
  pub defer : object.defer ≤ 255
  pub some_chart : 1 ≤ object.chart
  pub few_charts : object.chart ≤ length charts
  pub its : Chart
  pub is_its : slice_get charts (object.chart - 1) ≡ Some its
  pub vars : length object.vars ≡ length its.vars

-- a time event of a chart, as the object's own
abbrev pub timer_of : ObjectDef → Timer → TimerDef
timer_of object timer = record { object = object.priority; sig = timer.signal; rate = timer.rate }

-- the time events of an object: its chart's, in the chart's order
abbrev pub timers_of : List Chart → ObjectDef → List TimerDef
timers_of charts object = option_map_or (λ chart. map (timer_of object) chart.timer) (slice_get charts (object.chart - 1)) []

-- a time event: it is an object's, and posts a static signal
pub record IsSoundTimer (sys : System) (timer : TimerDef) : Type 0 where
  pub owner : ObjectDef
  pub is_owner : object_at sys timer.object ≡ Some owner
  pub from_four : 4 ≤ timer.sig
  pub signal : SignalDef
  pub is_signal : slice_get sys.signals (timer.sig - 4) ≡ Some signal
  pub static : signal.fixed ≡ true
  pub rate : timer.rate ≤ 3

-- a system within the limits of its file, whose parts fit together
pub record IsSound (sys : System) : Type 0 where
  pub few_pools : length sys.pools ≤ 15
  pub few_signals : length sys.signals ≤ 200
  pub some_charts : 1 ≤ length sys.charts
  pub few_charts : length sys.charts ≤ 32
  pub some_objects : 1 ≤ length sys.objects
  pub few_objects : length sys.objects ≤ 32
  pub few_timers : length sys.timers ≤ 64
  pub pools : AllByRecursion IsSoundPool sys.pools
  pub sizes : SizesAscend sys.pools
  pub signals : AllByRecursion (IsSoundSignal sys.pools) sys.signals
  pub params : AllByRecursion (λ d. d.params ≤ 8) sys.signals
  pub charts : AllByRecursion (IsSoundChart sys) sys.charts
  pub legal : AllByRecursion IsLegal sys.charts
  pub ascend : Ascend sys.objects
  pub priorities : AllByRecursion (λ d. d.priority ≤ 32) sys.objects
  pub objects : AllByRecursion (IsSoundObject sys.charts) sys.objects
  pub timers : AllByRecursion (IsSoundTimer sys) sys.timers
  -- they are numbered by their objects in ascending priority, and then by the chart's order
  pub numbered : sys.timers ≡ flat_map (timers_of sys.charts) sys.objects
