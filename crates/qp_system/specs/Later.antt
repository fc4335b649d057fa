-- The first fault of a system whose tables have none by themselves.
use Rattle.std.specs.Prelude.{List, [], ◌∷◌}
use Rattle.std.specs.declared.option.Option.{Option}
use Rattle.qp_chart_names.specs.declared.raw.RawChart.{RawChart}
use Rattle.qp_chart_names.specs.Faults.{Fault, first_of}
use Rattle.qp_model.specs.declared.systems.PoolDef.{PoolDef}
use Rattle.qp_model.specs.declared.systems.SignalDef.{SignalDef}
use Rattle.qp_system_tables.specs.declared.raw.RawObject.{RawObject}
use Rattle.qp_system_tables.specs.declared.raw.RawSystem.{RawSystem}
use Rattle.qp_system.specs.Between.{between_fault, no_pool_fault}
use Rattle.qp_system_tables.specs.Few.{whole}
use Rattle.qp_system.specs.Within.{outer_names, charts_fault}

-- the first fault between these tables, within the charts, and of a signal without a pool
unfoldable pub later_of : List PoolDef → List SignalDef → List RawChart → List RawObject → Option Fault
later_of pools signals charts objects =
    first_of
    (between_fault (whole pools signals charts objects)
    ∷ charts_fault (outer_names signals objects) charts
    ∷ no_pool_fault pools signals
    ∷ [])

-- the same of a whole system
abbrev pub later_fault : RawSystem → Option Fault
later_fault raw = later_of raw.pools raw.signals raw.charts raw.objects
