-- What the reader of a file has found right before a chart is checked.
use Rattle.std.specs.Prelude.{◌≤◌, length, All}
use Rattle.qp_chart_names.specs.declared.raw.RawChart.{RawChart}
use Rattle.qp_chart_names.specs.declared.raw.RawState.{RawState}
use Rattle.qp_chart_names.specs.declared.raw.RawRow.{RawRow}
use Rattle.qp_chart_names.specs.declared.raw.Names.{Names}

-- an action list has at most as many texts as allowed
abbrev pub IsReadableRow : RawRow → Type 0
IsReadableRow row = length row.acts ≤ 16

-- the lists of a state have at most as many members as allowed
pub record IsReadableState (state : RawState) : Type 0 where
  pub entry : length state.entry ≤ 16
  pub exit : length state.exit ≤ 16
  pub init_do : length state.init_do ≤ 16
  pub row : length state.row ≤ 32
  pub rows : All IsReadableRow state.row

-- the lists of a chart, and of what it may name, have at most as many members as allowed
pub record IsReadable (names : Names) (chart : RawChart) : Type 0 where
  pub signals : length names.signals ≤ 200
  pub objects : length names.objects ≤ 32
  pub init_do : length chart.init_do ≤ 16
  pub vars : length chart.vars ≤ 16
  pub timers : length chart.timer ≤ 8
  pub states : length chart.state ≤ 64
  pub each : All IsReadableState chart.state
