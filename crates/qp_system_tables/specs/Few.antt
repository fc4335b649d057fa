-- A system whose lists are as long as its file may have them.
use Rattle.std.specs.Prelude.{List, ◌≤◌, length, All}
use Rattle.qp_chart_names.specs.declared.raw.RawChart.{RawChart}
use Rattle.qp_chart_names.specs.Readable.{IsReadableState}
use Rattle.qp_model.specs.declared.systems.PoolDef.{PoolDef}
use Rattle.qp_model.specs.declared.systems.SignalDef.{SignalDef}
use Rattle.qp_system_tables.specs.declared.raw.RawObject.{RawObject}
use Rattle.qp_system_tables.specs.declared.raw.RawSystem.{RawSystem}

-- the lists of a chart
pub record IsFewChart (chart : RawChart) : Type 0 where
  pub init_do : length chart.init_do ≤ 16
  pub vars : length chart.vars ≤ 16
  pub timers : length chart.timer ≤ 8
  pub states : length chart.state ≤ 64
  pub each : All IsReadableState chart.state

-- the lists of a system, and of each of its charts
pub record IsFew (raw : RawSystem) : Type 0 where
  pub pools : length raw.pools ≤ 15
  pub signals : length raw.signals ≤ 200
  pub charts : length raw.charts ≤ 32
  pub objects : length raw.objects ≤ 32
  pub each : All IsFewChart raw.charts

-- the system of these lists
abbrev pub whole : List PoolDef → List SignalDef → List RawChart → List RawObject → RawSystem
whole pools signals charts objects = record { pools = pools; signals = signals; charts = charts; objects = objects }
