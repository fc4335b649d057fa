use Rattle.std.proofs.Common.{◌≡◌, map, take}
use Rattle.qp_system.specs.Within.{object_name}
use Rattle.qp_system.proofs.charts.object_names.Given as goal

abbrev pub invariant-loop-object : goal.invariant-loop-object
invariant-loop-object l = l.items.items ≡ map object_name (take l.object-index l.objects)
