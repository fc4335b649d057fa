-- What the bytes of a system file give, up to its checked charts.
use Rattle.std.specs.Prelude.{◌≡◌, List, ℕ, None, Ok}
use Rattle.qp_chart.specs.ChartOf.{IsChartOf}
use Rattle.qp_chart_names.specs.Pairs.{Corresponds}
use Rattle.qp_chart.specs.declared.checked.Chart.{Chart}
use Rattle.qp_system_tables.specs.declared.fault.SystemFault.{SystemFault}
use Rattle.qp_system_tables.specs.declared.raw.RawSystem.{RawSystem}
use Rattle.qp_system_tables.specs.Document.{TreeGives}
use Rattle.qp_system.specs.Later.{later_fault}
use Rattle.qp_system.specs.Passes.{IsFirstFault}
use Rattle.qp_system.specs.Within.{outer_names}

-- the tables of the bytes have none by themselves, and this is the first fault of the whole
unfoldable pub HasLater : List ℕ → SystemFault → Type 0
HasLater bytes e = (raw : RawSystem) × TreeGives bytes (Ok raw) × IsFirstFault (later_fault raw) e

-- the bytes are the tree of these tables, which have no fault, and these are their charts, checked
pub record IsChecked (bytes : List ℕ) (raw : RawSystem) (charts : List Chart) : Type 0 where
  pub read : TreeGives bytes (Ok raw)
  pub passed : later_fault raw ≡ None
  pub made : Corresponds (IsChartOf (outer_names raw.signals raw.objects)) raw.charts charts
