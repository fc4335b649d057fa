-- The rules that the charts of every system read from a file meet.
use Rattle.std.specs.Prelude.{◌≡◌, ℕ, ◌-◌, ◌<◌, ◌≤◌, true, List, length, slice_get, Some, None, IsSome}
use Rattle.std.specs.declared.option.Option.{Option}
use Rattle.std.specs.List.{AllByRecursion}
use Rattle.std.specs.Option.{unwrap_or}
use Rattle.qp_chart.specs.declared.expression.Bound.{Bound}
use Rattle.qp_chart.specs.declared.actions.Target.{Target}
use Rattle.qp_chart.specs.declared.actions.Target.TheVariants as target
use Rattle.qp_chart.specs.declared.actions.Plain as plain
use Rattle.qp_chart.specs.declared.actions.Plain.TheVariants as variant
use Rattle.qp_chart.specs.declared.actions.Act.{Act}
use Rattle.qp_chart.specs.declared.actions.Act.TheVariants as act
use Rattle.qp_chart.specs.declared.checked.Row.{Row}
use Rattle.qp_chart.specs.declared.checked.State.{State}
use Rattle.qp_chart.specs.declared.checked.Chart.{Chart}
use Rattle.qp_chart.specs.Expr.{InRange}
use Rattle.qp_model.specs.declared.systems.SignalDef.{SignalDef}
use Rattle.qp_model.specs.declared.systems.ObjectDef.{ObjectDef}
use Rattle.qp_model.specs.declared.systems.System.{System}
use Rattle.qp_model.specs.Sites.{object_at}

-- the signal with this number
abbrev pub IsSignal : System → ℕ → SignalDef → Type 0
IsSignal sys sig signal = (4 ≤ sig) × (slice_get sys.signals (sig - 4) ≡ Some signal)

-- the signal with this number is declared
abbrev pub IsDeclared : System → ℕ → Type 0
IsDeclared sys sig = (signal : SignalDef) × IsSignal sys sig signal

-- a number of a state of the chart, or none
abbrev pub IsState : Chart → Option ℕ → Type 0
IsState chart None = Unit {0}
IsState chart (Some s) = (1 ≤ s) × (s ≤ length chart.state)

-- the receiver is an object of the system
abbrev pub IsReceiver : System → Target → Type 0
IsReceiver sys target.Me = Unit {0}
IsReceiver sys (target.Object p) = (object : ObjectDef) × (object_at sys p ≡ Some object)

-- a number of a time event of the chart
abbrev pub IsTimer : Chart → ℕ → Type 0
IsTimer chart t = (1 ≤ t) × (t ≤ length chart.timer)

-- the expression names variables of the chart, and parameters of the row's signal; there are none outside a row
abbrev pub NamesKnown : Chart → Option ℕ → Bound → Type 0
NamesKnown chart inside b = InRange (length chart.vars) (unwrap_or inside 0) b

-- an event has as many parameters as its signal, and a reserve only where that has blocks
pub record IsSoundEvent (sys : System) (chart : Chart) (inside : Option ℕ) (sig : ℕ) (pars : List Bound) (reserve : Option ℕ) : Type 0 where
  pub signal : SignalDef
  pub is_signal : IsSignal sys sig signal
  pub count : length pars ≡ signal.params
  pub each : AllByRecursion (NamesKnown chart inside) pars
  pub reserve_pooled : signal.fixed ≡ true → reserve ≡ None

-- a plain action; `inside` has the parameters of the row's signal, and is None outside a row
unfoldable pub IsSoundPlain : System → Chart → Option ℕ → plain.Plain → Type 0
IsSoundPlain sys chart inside (variant.Set v b) = (v < length chart.vars) × NamesKnown chart inside b
IsSoundPlain sys chart inside (variant.Say b) = NamesKnown chart inside b
IsSoundPlain sys chart inside (variant.Post to sig pars margin reserve) = IsReceiver sys to × IsSoundEvent sys chart inside sig pars reserve
IsSoundPlain sys chart inside (variant.Lifo sig pars reserve) = IsSoundEvent sys chart inside sig pars reserve
IsSoundPlain sys chart inside (variant.Forward to margin) = IsReceiver sys to × IsSome inside
IsSoundPlain sys chart inside (variant.Publish sig pars reserve) = IsSoundEvent sys chart inside sig pars reserve
IsSoundPlain sys chart inside variant.Defer = IsSome inside
IsSoundPlain sys chart inside variant.Recall = Unit {0}
IsSoundPlain sys chart inside variant.Flush = Unit {0}
IsSoundPlain sys chart inside (variant.Subscribe sig) = IsDeclared sys sig
IsSoundPlain sys chart inside (variant.Unsubscribe sig) = IsDeclared sys sig
IsSoundPlain sys chart inside (variant.Arm t ticks interval) = IsTimer chart t × NamesKnown chart inside ticks × NamesKnown chart inside interval
IsSoundPlain sys chart inside (variant.Rearm t ticks) = IsTimer chart t × NamesKnown chart inside ticks
IsSoundPlain sys chart inside (variant.Disarm t) = IsTimer chart t

-- an action; a ceiling is 1 to 32
abbrev pub IsSoundAct : System → Chart → Option ℕ → Act → Type 0
IsSoundAct sys chart inside (act.Plain p) = IsSoundPlain sys chart inside p
IsSoundAct sys chart inside (act.Locked ceiling ps) = (1 ≤ ceiling) × (ceiling ≤ 32) × AllByRecursion (IsSoundPlain sys chart inside) ps

-- an optional guard
abbrev pub IsSoundGuard : Chart → ℕ → Option Bound → Type 0
IsSoundGuard chart params None = Unit {0}
IsSoundGuard chart params (Some b) = InRange (length chart.vars) params b

-- a row
pub record IsSoundRow (sys : System) (chart : Chart) (row : Row) : Type 0 where
  pub signal : SignalDef
  pub on : IsSignal sys row.on signal
  pub when : IsSoundGuard chart signal.params row.when
  pub few_acts : length row.acts ≤ 16
  pub acts : AllByRecursion (IsSoundAct sys chart (Some signal.params)) row.acts
  pub to : IsState chart row.to

-- a state
pub record IsSoundState (sys : System) (chart : Chart) (state : State) : Type 0 where
  pub few_entry : length state.entry ≤ 16
  pub few_exit : length state.exit ≤ 16
  pub few_init_do : length state.init_do ≤ 16
  pub few_rows : length state.row ≤ 32
  pub parent : IsState chart state.parent
  pub entry : AllByRecursion (IsSoundAct sys chart None) state.entry
  pub exit : AllByRecursion (IsSoundAct sys chart None) state.exit
  pub init : IsState chart state.init
  pub init_do : AllByRecursion (IsSoundAct sys chart None) state.init_do
  pub rows : AllByRecursion (IsSoundRow sys chart) state.row

-- a chart whose lists are as long as its file may have them, and whose numbers all stand for something
pub record IsSoundChart (sys : System) (chart : Chart) : Type 0 where
  pub few_states : length chart.state ≤ 64
  pub few_timers : length chart.timer ≤ 8
  pub few_vars : length chart.vars ≤ 16
  pub few_init_do : length chart.init_do ≤ 16
  pub init : IsState chart (Some chart.init)
  pub init_do : AllByRecursion (IsSoundAct sys chart None) chart.init_do
  pub states : AllByRecursion (IsSoundState sys chart) chart.state
