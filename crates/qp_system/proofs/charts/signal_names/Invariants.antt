use Rattle.std.proofs.Common.{◌≡◌, map, take}
use Rattle.qp_system.specs.Within.{signal_name}
use Rattle.qp_system.proofs.charts.signal_names.Given as goal

abbrev pub invariant-loop-signal : goal.invariant-loop-signal
invariant-loop-signal l = l.items.items ≡ map signal_name (take l.signal-index l.signals)
