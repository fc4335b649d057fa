-- Tables of the names of a chart and its surroundings.
use Rattle.std.specs.Prelude.{◌≡◌}
use Rattle.qp_chart_names.specs.declared.raw.RawChart.{RawChart}
use Rattle.qp_chart_names.specs.declared.raw.Names.{Names}
use Rattle.qp_chart_names.specs.declared.tables.Tables.{Tables}
use Rattle.qp_chart_names.specs.Numbering.{IsNumbering}
use Rattle.qp_chart_names.specs.Known.{words}
use Rattle.qp_chart_names.specs.RawNumbers.{signal_names, object_names, state_names, timer_names, variable_names}

-- each table numbers its things as the chart and its surroundings do
pub record IsTablesOf (names : Names) (chart : RawChart) (tables : Tables) : Type 0 where
  pub signals : IsNumbering 4 (signal_names names.signals) tables.signals
  pub objects : IsNumbering 0 (object_names names.objects) tables.objects
  pub states : IsNumbering 1 (state_names chart.state) tables.states
  pub timers : IsNumbering 1 (timer_names chart.timer) tables.timers
  pub variables : IsNumbering 0 (variable_names chart.vars) tables.variables
  pub vars : words tables.vars.items ≡ variable_names chart.vars
