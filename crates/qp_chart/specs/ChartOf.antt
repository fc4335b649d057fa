-- The checked chart of a chart as its file has it: each name is resolved to its number.
use Rattle.std.specs.Prelude.{◌≡◌, ℕ, List, Some, None}
use Rattle.std.specs.declared.option.Option.{Option}
use Rattle.qp_chart_names.specs.declared.raw.RawChart.{RawChart}
use Rattle.qp_chart_names.specs.declared.raw.RawTimer.{RawTimer}
use Rattle.qp_chart_names.specs.declared.raw.RawState.{RawState}
use Rattle.qp_chart_names.specs.declared.raw.RawRow.{RawRow}
use Rattle.qp_chart_names.specs.declared.raw.Names.{Names}
use Rattle.qp_chart.specs.declared.actions.Act.{Act}
use Rattle.qp_chart.specs.declared.checked.Timer.{Timer}
use Rattle.qp_chart.specs.declared.checked.Row.{Row}
use Rattle.qp_chart.specs.declared.checked.State.{State}
use Rattle.qp_chart.specs.declared.checked.Chart.{Chart}
use Rattle.qp_chart_names.specs.Pairs.{Corresponds}
use Rattle.qp_chart_names.specs.RawNumbers.{Refers, state_number, signal_number}
use Rattle.qp_chart.specs.Parents.{parent_number}
use Rattle.qp_chart_names.specs.ActionFaults.{params_of_name}
use Rattle.qp_chart.specs.ActionOf.{IsActOfText, IsGuardOf}

-- the actions of some texts
abbrev pub AreActsOf : Names → RawChart → Option ℕ → List (List ℕ) → List Act → Type 0
AreActsOf names chart inside texts acts = Corresponds (IsActOfText names chart inside) texts acts

-- a time event
pub record IsTimerOf (names : Names) (raw : RawTimer) (timer : Timer) : Type 0 where
  pub name : timer.name ≡ raw.name
  pub signal : signal_number names raw.signal ≡ Some timer.signal
  pub rate : timer.rate ≡ raw.rate

-- a row; its texts may use the parameters of its signal
pub record IsRowOf (names : Names) (chart : RawChart) (raw : RawRow) (row : Row) : Type 0 where
  pub on : signal_number names raw.on ≡ Some row.on
  pub when : IsGuardOf chart (params_of_name names raw.on) raw.when row.when
  pub acts : AreActsOf names chart (Some (params_of_name names raw.on)) raw.acts row.acts
  pub to : Refers (state_number chart) raw.to row.to

-- a state
pub record IsStateOf (names : Names) (chart : RawChart) (raw : RawState) (state : State) : Type 0 where
  pub name : state.name ≡ raw.name
  pub parent : state.parent ≡ parent_number chart raw
  pub entry : AreActsOf names chart None raw.entry state.entry
  pub exit : AreActsOf names chart None raw.exit state.exit
  pub init : Refers (state_number chart) raw.init state.init
  pub init_do : AreActsOf names chart None raw.init_do state.init_do
  pub row : Corresponds (IsRowOf names chart) raw.row state.row

-- a chart's start and its states
pub record IsBodyOf (names : Names) (raw : RawChart) (start : ℕ) (acts : List Act) (states : List State) : Type 0 where
  pub init : state_number raw raw.init ≡ Some start
  pub init_do : AreActsOf names raw None raw.init_do acts
  pub state : Corresponds (IsStateOf names raw) raw.state states

-- a chart
pub record IsChartOf (names : Names) (raw : RawChart) (chart : Chart) : Type 0 where
  pub name : chart.name ≡ raw.name
  pub init : state_number raw raw.init ≡ Some chart.init
  pub init_do : AreActsOf names raw None raw.init_do chart.init_do
  pub vars : chart.vars ≡ raw.vars
  pub timer : Corresponds (IsTimerOf names) raw.timer chart.timer
  pub state : Corresponds (IsStateOf names raw) raw.state chart.state
